-- The rows that an edge passes.
use Rattle.std.specs.Prelude.{ℕ, ◌≤◌, ◌<◌, ◌≤ℤ◌, ◌<ℤ◌}
use Rattle.ps_shapes.specs.declared.polygon.Point.{Point}
use Rattle.path_cover.specs.Cover.{centre}

-- between the two points the centres of these rows lie
pub record HasRows (top bottom : Point) (first past : ℕ) : Type 0 where
  pub above : (y : ℕ) → first ≤ y → y < past → top.y ≤ℤ centre y
  pub below : (y : ℕ) → first ≤ y → y < past → centre y <ℤ bottom.y
