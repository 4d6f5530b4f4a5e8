-- How many points a path has.
use Rattle.std.specs.Prelude.{ℕ, ◌+◌, List, [], ◌∷◌}
use Rattle.ps_shapes.specs.declared.path.Segment.{Segment}
use Rattle.ps_shapes.specs.declared.path.Segment.TheVariants.{Move, Line, Curve, Close}

-- the points of a segment: a curve has its two control points and its end
abbrev pub points_of : Segment → ℕ
points_of (Move p) = 1
points_of (Line p) = 1
points_of (Curve p q r) = 3
points_of Close = 0

-- the points of a path, which are 100,000 at most
abbrev pub path_points : List Segment → ℕ
path_points [] = 0
path_points (segment ∷ segments) = points_of segment + path_points segments

-- the points of a segment once it is flattened: a curve becomes 32 lines
abbrev pub flat_points_of : Segment → ℕ
flat_points_of (Move p) = 1
flat_points_of (Line p) = 1
flat_points_of (Curve p q r) = 32
flat_points_of Close = 0

-- the points of a path once it is flattened
abbrev pub flat_points : List Segment → ℕ
flat_points [] = 0
flat_points (segment ∷ segments) = flat_points_of segment + flat_points segments
