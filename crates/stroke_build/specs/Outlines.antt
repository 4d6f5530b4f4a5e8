-- The polygons that a pen draws along flattened subpaths: segments, joins and caps (section 4.5.1 of the language manual). The numbers and
-- their rounding are the project's own rule, since the manual sets none.
use Rattle.std.specs.Prelude.{ℕ, ℤ, pos, ◌-◌, ◌*◌, ◌^◌, ◌+ℤ◌, ◌-ℤ◌, ◌*ℤ◌, neg_ℤ, ◌&&◌, not, Bool, List, [], ◌∷◌, ◌++◌, map, length, slice_get, drop, Option, Some, None, int_le, int_lt, unsigned_abs, if◌then◌else◌}
use Rattle.std.specs.List.{range_with_len}
use Rattle.std.specs.Ordering.{int_eq}
use Rattle.ps_shapes.specs.declared.polygon.Point.{Point}
use Rattle.ps_kinds.specs.declared.ranges.LineCap.{LineCap}
use Rattle.ps_kinds.specs.declared.ranges.LineCap.TheVariants as line_cap
use Rattle.ps_kinds.specs.declared.ranges.LineJoin.{LineJoin}
use Rattle.ps_kinds.specs.declared.ranges.LineJoin.TheVariants as line_join
use Rattle.ps_fixed.specs.Sines.{sine_of, cosine_of}
use Rattle.ps_fixed.specs.Rounding.{nearest_quotient}
use Rattle.stroke_build.specs.declared.corner.Corner.{Corner}
use Rattle.stroke_build.specs.declared.vector.Vector.{Vector}
use Rattle.stroke_build.specs.declared.pen.Pen.{Pen}
use Rattle.stroke_build.specs.declared.side.Side.{Side}
use Rattle.path_flat.specs.declared.tracing.Subpath.{Subpath}
use Rattle.stroke_build.specs.Corners.{moved}
use Rattle.stroke_build.specs.Sides.{share, sides}

-- ---- the 32-gon

-- corner j of the 32-gon of radius r around 0, at 11.25·j degrees
abbrev pub ring_corner : ℕ → ℕ → Vector
ring_corner r j = record { x = share (cosine_of (pos (188743680 * j))) r (2 ^ 24); y = share (sine_of (pos (188743680 * j))) r (2 ^ 24) }

-- the 32-gon of radius r around 0
unfoldable pub ring : ℕ → List Vector
ring r = map (ring_corner r) (range_with_len 0 32)

-- the 32-gon around a point
abbrev pub disc : List Vector → Point → List Corner
disc ring p = map (λ v. moved p v.x v.y) ring

-- ---- segments

-- A+n, B+n, B-n, A-n
abbrev pub side_polygon : Side → List Corner
side_polygon s = moved s.from s.normal.x s.normal.y ∷ moved s.to s.normal.x s.normal.y
    ∷ moved s.to (neg_ℤ s.normal.x) (neg_ℤ s.normal.y) ∷ moved s.from (neg_ℤ s.normal.x) (neg_ℤ s.normal.y) ∷ []

-- ---- joins

-- how far right a segment goes
abbrev pub run : Side → ℤ
run s = s.to.x -ℤ s.from.x

-- how far down a segment goes
abbrev pub fall : Side → ℤ
fall s = s.to.y -ℤ s.from.y

-- the cross product of two segments
unfoldable pub cross : Side → Side → ℤ
cross a b = run a *ℤ fall b -ℤ fall a *ℤ run b

-- the dot product of two segments
unfoldable pub dot : Side → Side → ℤ
dot a b = run a *ℤ run b +ℤ fall a *ℤ fall b

-- whether the outer side of the turn from a to b is against the normals
abbrev pub is_against : Side → Side → Bool
is_against a b = int_lt (pos 0) (cross a b)

-- a coordinate of a distance to the outer side
abbrev pub outer : Bool → ℤ → ℤ
outer against z = if against then neg_ℤ z else z

-- the point of a join
abbrev pub joint : Side → Corner
joint a = moved a.to (pos 0) (pos 0)

-- the join's point, moved to the outer side
abbrev pub outward : Side → Side → ℤ → ℤ → Corner
outward a b x y = moved a.to (outer (is_against a b) x) (outer (is_against a b) y)

-- the triangle P, P+s·n1, P+s·n2
abbrev pub bevel_polygon : Side → Side → List Corner
bevel_polygon a b = joint a ∷ outward a b a.normal.x a.normal.y ∷ outward a b b.normal.x b.normal.y ∷ []

-- a bevelled join: nothing where the line goes straight on or back
abbrev pub bevel : Side → Side → List (List Corner)
bevel a b = if int_eq (cross a b) (pos 0) then [] else (bevel_polygon a b ∷ [])

-- R² + n1·n2
unfoldable pub opening : ℕ → Side → Side → ℤ
opening r a b = pos (r * r) +ℤ (a.normal.x *ℤ b.normal.x +ℤ a.normal.y *ℤ b.normal.y)

-- a coordinate of (n1 + n2)·R² / q
unfoldable pub tip : ℕ → ℤ → ℤ → ℤ → ℤ
tip r u v q = nearest_quotient ((u +ℤ v) *ℤ pos (r * r)) (unsigned_abs q)

-- the quadrangle P, P+s·n1, P+s·(n1+n2)·R²/q, P+s·n2
abbrev pub miter_polygon : ℕ → Side → Side → List Corner
miter_polygon r a b = joint a ∷ outward a b a.normal.x a.normal.y
    ∷ outward a b (tip r a.normal.x b.normal.x (opening r a b)) (tip r a.normal.y b.normal.y (opening r a b))
    ∷ outward a b b.normal.x b.normal.y ∷ []

-- whether the miter is within its limit m, which is in 1/256
unfoldable pub is_within : ℕ → Side → Side → Bool
is_within m a b = int_le (pos 131072 *ℤ pos (a.length * b.length)) (pos (m * m) *ℤ (pos (a.length * b.length) +ℤ dot a b))

-- whether the line turns
abbrev pub turns : Side → Side → Bool
turns a b = not (int_eq (cross a b) (pos 0))

-- whether the normals meet on the outer side
abbrev pub is_open : ℕ → Side → Side → Bool
is_open r a b = int_lt (pos 0) (opening r a b)

-- whether the join has a miter
unfoldable pub has_miter : Pen → Side → Side → Bool
has_miter pen a b = turns a b && is_open pen.radius a b && is_within pen.miter a b

-- the join of two segments
abbrev pub join_by : LineJoin → Pen → List Vector → Side → Side → List (List Corner)
join_by line_join.Round pen ring a b = disc ring a.to ∷ []
join_by line_join.Bevel pen ring a b = bevel a b
join_by line_join.Miter pen ring a b = if has_miter pen a b then (miter_polygon pen.radius a b ∷ []) else bevel a b

-- the join of two segments by the pen's shape
unfoldable pub join : Pen → List Vector → Side → Side → List (List Corner)
join pen ring a b = join_by pen.join pen ring a b

-- the joins from a segment to the next, and so on
abbrev pub joins : Pen → List Vector → Side → List Side → List (List Corner)
joins pen ring a [] = []
joins pen ring a (b ∷ bs) = join pen ring a b ++ joins pen ring b bs

-- ---- ends

-- E+n, E+n+e, E-n+e, E-n
abbrev pub square : Point → Vector → ℤ → ℤ → List Corner
square p n x y = moved p n.x n.y ∷ moved p (n.x +ℤ x) (n.y +ℤ y) ∷ moved p (neg_ℤ n.x +ℤ x) (neg_ℤ n.y +ℤ y) ∷ moved p (neg_ℤ n.x) (neg_ℤ n.y) ∷ []

-- the cap of an end at p, whose segment has the normal n, and (x, y) along it outward
abbrev pub cap_by : LineCap → List Vector → Point → Vector → ℤ → ℤ → List (List Corner)
cap_by line_cap.Butt ring p n x y = []
cap_by line_cap.Round ring p n x y = disc ring p ∷ []
cap_by line_cap.Square ring p n x y = square p n x y ∷ []

-- the cap where a segment begins
abbrev pub start_cap : LineCap → List Vector → Side → List (List Corner)
start_cap cap ring a = cap_by cap ring a.from a.normal (neg_ℤ a.along.x) (neg_ℤ a.along.y)

-- the cap where a segment ends
abbrev pub end_cap : LineCap → List Vector → Side → List (List Corner)
end_cap cap ring b = cap_by cap ring b.to b.normal b.along.x b.along.y

-- the caps of an open subpath from its first and its last segment
abbrev pub caps : Pen → List Vector → Side → Side → List (List Corner)
caps pen ring a b = start_cap pen.cap ring a ++ end_cap pen.cap ring b

-- the join of a closed subpath's last segment to its first, or the caps of an open one
abbrev pub ends : Pen → List Vector → Bool → Side → Side → List (List Corner)
ends pen ring closed a b = if closed then join pen ring b a else caps pen ring a b

-- ---- subpaths

-- a subpath without a segment: a dot for round caps
abbrev pub dot_by : LineCap → List Vector → Option Point → List (List Corner)
dot_by line_cap.Butt ring p = []
dot_by line_cap.Square ring p = []
dot_by line_cap.Round ring None = []
dot_by line_cap.Round ring (Some p) = disc ring p ∷ []

-- the outline of segments: the polygons of all, the joins, and what is at the ends
abbrev pub outline_of : Pen → List Vector → Bool → Side → Side → List Side → List (List Corner)
outline_of pen ring closed a b ss = map side_polygon ss ++ (joins pen ring a (drop 1 ss) ++ ends pen ring closed a b)

-- the outline of a subpath whose segments are known, with the first and the last of them
abbrev pub outline_by : Pen → List Vector → Subpath → Option Side → Option Side → List Side → List (List Corner)
outline_by pen ring subpath None b ss = dot_by pen.cap ring (slice_get subpath.points 0)
outline_by pen ring subpath (Some a) None ss = []
outline_by pen ring subpath (Some a) (Some b) ss = outline_of pen ring subpath.closed a b ss

-- the outline of a subpath from its segments
abbrev pub outline_along : Pen → List Vector → Subpath → List Side → List (List Corner)
outline_along pen ring subpath ss = outline_by pen ring subpath (slice_get ss 0) (slice_get ss (length ss - 1)) ss

-- the outline of a subpath
unfoldable pub outline : Pen → List Vector → Subpath → List (List Corner)
outline pen ring subpath = outline_along pen ring subpath (sides pen.radius subpath.points subpath.closed)

-- the outlines of subpaths, one after the other
abbrev pub outlines_by : Pen → List Vector → List Subpath → List (List Corner)
outlines_by pen ring [] = []
outlines_by pen ring (s ∷ ss) = outline pen ring s ++ outlines_by pen ring ss

-- the polygons that the pen draws along subpaths
unfoldable pub outlines : Pen → List Subpath → List (List Corner)
outlines pen subpaths = outlines_by pen (ring pen.radius) subpaths
