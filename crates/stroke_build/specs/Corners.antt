-- Corners of polygons before it is known that they are near enough.
use Rattle.std.specs.Prelude.{ℤ, negsuc, pos, ◌+ℤ◌, ◌&&◌, Bool, true, List, [], ◌∷◌, map, int_le}
use Rattle.ps_shapes.specs.declared.polygon.Point.{Point}
use Rattle.stroke_build.specs.declared.corner.Corner.{Corner}

-- within 2^30 of 0
abbrev pub is_near : ℤ → Bool
is_near z = int_le (negsuc 1073741823) z && int_le z (pos 1073741824)

-- both coordinates are within 2^30 of 0
abbrev pub is_near_corner : Corner → Bool
is_near_corner c = is_near c.x && is_near c.y

-- all corners of a polygon are
abbrev pub is_near_polygon : List Corner → Bool
is_near_polygon [] = true
is_near_polygon (c ∷ cs) = is_near_corner c && is_near_polygon cs

-- all corners of all polygons are
abbrev pub are_near : List (List Corner) → Bool
are_near [] = true
are_near (p ∷ ps) = is_near_polygon p && are_near ps

-- a point's place
abbrev pub corner_of : Point → Corner
corner_of p = record { x = p.x; y = p.y }

-- the places of a polygon's points
abbrev pub corners_of : List Point → List Corner
corners_of points = map corner_of points

-- the places of the points of polygons
abbrev pub places : List (List Point) → List (List Corner)
places polygons = map corners_of polygons

-- the point moved by (x, y)
abbrev pub moved : Point → ℤ → ℤ → Corner
moved p x y = record { x = p.x +ℤ x; y = p.y +ℤ y }
