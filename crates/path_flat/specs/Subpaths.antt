-- The subpaths of a path, in 1/256 pixel.
use Rattle.std.specs.Prelude.{ℕ, zero, suc, ◌+◌, List, [], ◌∷◌, ◌++◌, map, true, false}
use Rattle.ps_shapes.specs.declared.path.DevicePoint.{DevicePoint}
use Rattle.ps_shapes.specs.declared.path.Segment.{Segment}
use Rattle.ps_shapes.specs.declared.path.Segment.TheVariants.{Move, Line, Curve, Close}
use Rattle.ps_shapes.specs.declared.polygon.Point.{Point}
use Rattle.path_flat.specs.declared.tracing.Subpath.{Subpath}
use Rattle.path_flat.specs.declared.tracing.Tracer.{Tracer}
use Rattle.path_flat.specs.Curves.{curve_point, pixel_point}
use Rattle.path_flat.specs.Flattening.{pen_after, resting}

-- the first so many of the 32 points of a curve
unfoldable pub curve_points : ℕ → DevicePoint → DevicePoint → DevicePoint → DevicePoint → List Point
curve_points zero a b c d = []
curve_points (suc n) a b c d = curve_points n a b c d ++ pixel_point (curve_point (n + 1) a b c d) ∷ []

-- a subpath that isn't closed; a lone point gives none
abbrev pub left_open : List Point → List Subpath
left_open [] = []
left_open (p ∷ []) = []
left_open (p ∷ (q ∷ qs)) = record { points = p ∷ (q ∷ qs); closed = false } ∷ []

-- a subpath that is closed; a lone point gives one of one point
abbrev pub left_closed : List Point → List Subpath
left_closed [] = []
left_closed (p ∷ ps) = record { points = p ∷ ps; closed = true } ∷ []

-- the points of the subpath that a line goes on: after a closed one, it begins where that began
abbrev pub begun : DevicePoint → List Point → List Point
begun start [] = pixel_point start ∷ []
begun start (p ∷ ps) = p ∷ ps

-- the subpaths that have ended after a segment
abbrev pub done_after : Tracer → Segment → List Subpath
done_after t (Move p) = t.done ++ left_open t.points
done_after t (Line p) = t.done
done_after t (Curve b c d) = t.done
done_after t Close = t.done ++ left_closed t.points

-- the points of the subpath that is being drawn after a segment
abbrev pub points_after : Tracer → Segment → List Point
points_after t (Move p) = pixel_point p ∷ []
points_after t (Line p) = begun t.pen.start t.points ++ pixel_point p ∷ []
points_after t (Curve b c d) = begun t.pen.start t.points ++ curve_points 32 t.pen.at b c d
points_after t Close = []

-- after a segment
abbrev pub traced : Tracer → Segment → Tracer
traced t segment =
    record { done = done_after t segment; points = points_after t segment; pen = pen_after t.pen segment }

-- after a list of segments
abbrev pub traced_all : Tracer → List Segment → Tracer
traced_all t [] = t
traced_all t (segment ∷ segments) = traced_all (traced t segment) segments

-- before any segment
abbrev pub untraced : Tracer
untraced = record { done = []; points = []; pen = resting }

-- all subpaths at the path's end
abbrev pub ended : Tracer → List Subpath
ended t = t.done ++ left_open t.points

-- the subpaths of a path
abbrev pub subpaths : List Segment → List Subpath
subpaths segments = ended (traced_all untraced segments)

-- the points of each subpath, without a point that closes it
abbrev pub flat : List Segment → List (List Point)
flat segments = map (λ (s : Subpath). s.points) (subpaths segments)
