-- Which pixels are inside polygons, each pixel alone: by the nonzero winding number or by the even-odd rule (section 4.5.3 of the
-- language manual), or inside one polygon at least, which is the project's own rule for strokes. A pixel stands for its centre, which is
-- the project's own rule too.
use Rattle.std.specs.Prelude.{ℕ, ℤ, pos, ◌+◌, ◌-◌, ◌*◌, ◌%◌, ◌+ℤ◌, ◌-ℤ◌, ◌*ℤ◌, List, [], ◌∷◌, length, slice_get, Option, Some, None, Bool, true, false, not, ◌&&◌, nat_eq, int_le, int_lt, sum_by, count_by, if◌then◌else◌}
use Rattle.std.specs.List.{list_any}
use Rattle.ps_shapes.specs.declared.polygon.Point.{Point}
use Rattle.ps_shapes.specs.declared.polygon.Rule.{Rule}
use Rattle.ps_shapes.specs.declared.polygon.Rule.TheVariants.{NonZero, EvenOdd, AnyOf}

-- the centre of the pixels of a row or a column, in 1/256 pixel
abbrev pub centre : ℕ → ℤ
centre n = pos (256 * n + 128)

-- at the height of row y, the line from a to b below it is at the centre of column x or left of it
abbrev pub is_left : Point → Point → ℕ → ℕ → Bool
is_left a b x y = int_le (a.x *ℤ (b.y -ℤ centre y) +ℤ b.x *ℤ (centre y -ℤ a.y)) (centre x *ℤ (b.y -ℤ a.y))

-- the edge goes down from a to b, past the centre of row y, left of the centre of column x
abbrev pub passes : Point → Point → ℕ → ℕ → Bool
passes a b x y = int_le a.y (centre y) && int_lt (centre y) b.y && is_left a b x y

-- the edges from each point to the next
abbrev pub sides_after : Point → List Point → List (Point × Point)
sides_after p [] = []
sides_after p (q ∷ qs) = (p, q) ∷ sides_after q qs

-- the edges of a closed polygon: from its last point to its first, and from each to the next
abbrev pub sides_from : Option Point → List Point → List (Point × Point)
sides_from None ps = []
sides_from (Some p) ps = sides_after p ps

-- the edges of a closed polygon from its points
abbrev pub sides : List Point → List (Point × Point)
sides ps = sides_from (slice_get ps (length ps - 1)) ps

-- the edge counts at the pixel: +1 where `down`, and -1 otherwise
abbrev pub counts : Bool → ℕ → ℕ → Point × Point → Bool
counts down x y s = if down then passes s.0 s.1 x y else passes s.1 s.0 x y

-- how many edges of a polygon count at the pixel in a direction
abbrev pub counted : Bool → ℕ → ℕ → List Point → ℕ
counted down x y polygon = count_by (counts down x y) (sides polygon)

-- whether that many +1 and -1 make the pixel inside: an odd number of both, or a sum that isn't 0
abbrev pub is_inside : Bool → ℕ → ℕ → Bool
is_inside odd ups downs = if odd then nat_eq ((ups + downs) % 2) 1 else not (nat_eq ups downs)

-- inside all polygons, taken as one
abbrev pub covers_together : Bool → List (List Point) → ℕ → ℕ → Bool
covers_together odd polygons x y = is_inside odd (sum_by (counted true x y) polygons) (sum_by (counted false x y) polygons)

-- inside one of them at least
abbrev pub covers_one : List (List Point) → ℕ → ℕ → Bool
covers_one polygons x y = list_any (λ polygon. is_inside false (counted true x y polygon) (counted false x y polygon)) polygons

-- the pixel (x, y) is inside the polygons
abbrev pub covers : List (List Point) → Rule → ℕ → ℕ → Bool
covers polygons NonZero x y = covers_together false polygons x y
covers polygons EvenOdd x y = covers_together true polygons x y
covers polygons AnyOf x y = covers_one polygons x y
