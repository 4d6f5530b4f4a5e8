-- The segments of a flattened subpath, those of length 0 left out.
use Rattle.std.specs.Prelude.{ℕ, ℤ, pos, ◌+◌, ◌-◌, ◌*◌, ◌-ℤ◌, ◌*ℤ◌, neg_ℤ, ◌&&◌, Bool, List, [], ◌∷◌, ◌++◌, length, slice_get, Option, Some, None, unsigned_abs, if◌then◌else◌}
use Rattle.std.specs.Ordering.{int_eq}
use Rattle.ps_shapes.specs.declared.polygon.Point.{Point}
use Rattle.ps_fixed.specs.Roots.{root_from}
use Rattle.ps_fixed.specs.Rounding.{nearest_quotient}
use Rattle.stroke_build.specs.declared.vector.Vector.{Vector}
use Rattle.stroke_build.specs.declared.side.Side.{Side}

-- the whole root of dx² + dy²
unfoldable pub length_of : ℤ → ℤ → ℕ
length_of dx dy = root_from 32 (unsigned_abs dx * unsigned_abs dx + unsigned_abs dy * unsigned_abs dy) 0

-- d·r / l, to the nearest whole number
abbrev pub share : ℤ → ℕ → ℕ → ℤ
share d r l = nearest_quotient (d *ℤ pos r) l

-- the distance of length r along (dx, dy), whose length is l
abbrev pub along_of : ℕ → ℤ → ℤ → ℕ → Vector
along_of r dx dy l = record { x = share dx r l; y = share dy r l }

-- the distance of length r across (dx, dy), whose length is l
abbrev pub normal_of : ℕ → ℤ → ℤ → ℕ → Vector
normal_of r dx dy l = record { x = share (neg_ℤ dy) r l; y = share dx r l }

-- the segment of the distance (dx, dy) and of that length, for a pen of radius r
abbrev pub side_along : ℕ → Point → Point → ℤ → ℤ → ℕ → Side
side_along r a b dx dy l = record { from = a; to = b; length = l; along = along_of r dx dy l; normal = normal_of r dx dy l }

-- the segment from a to b
unfoldable pub side : ℕ → Point → Point → Side
side r a b = side_along r a b (b.x -ℤ a.x) (b.y -ℤ a.y) (length_of (b.x -ℤ a.x) (b.y -ℤ a.y))

-- whether two points are one
abbrev pub is_same : Point → Point → Bool
is_same a b = int_eq a.x b.x && int_eq a.y b.y

-- the segment from a to b, unless they are one point
abbrev pub side_between : ℕ → Point → Point → List Side
side_between r a b = if is_same a b then [] else (side r a b ∷ [])

-- the segments from a to the first of the points, and from each to the next
abbrev pub sides_after : ℕ → Point → List Point → List Side
sides_after r a [] = []
sides_after r a (b ∷ bs) = side_between r a b ++ sides_after r b bs

-- the segments along points: the first point is where they begin, and from it to itself there is none
abbrev pub sides_along : ℕ → Option Point → List Point → List Side
sides_along r None points = []
sides_along r (Some a) points = sides_after r a points

-- the segment between two points that are there
abbrev pub closing_side : ℕ → Option Point → Option Point → List Side
closing_side r None b = []
closing_side r (Some a) None = []
closing_side r (Some a) (Some b) = side_between r a b

-- the segments of a subpath: where it is closed, the last goes from its last point to its first
unfoldable pub sides : ℕ → List Point → Bool → List Side
sides r points closed = sides_along r (slice_get points 0) points ++ (if closed then closing_side r (slice_get points (length points - 1)) (slice_get points 0) else [])
