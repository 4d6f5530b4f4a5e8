-- A path whose curves are lines.
use Rattle.std.specs.Prelude.{ℕ, zero, suc, pos, ◌+◌, List, [], ◌∷◌, ◌++◌}
use Rattle.ps_shapes.specs.declared.path.DevicePoint.{DevicePoint}
use Rattle.ps_shapes.specs.declared.path.Segment.{Segment}
use Rattle.ps_shapes.specs.declared.path.Segment.TheVariants.{Move, Line, Curve, Close}
use Rattle.path_flat.specs.declared.flattening.Pen.{Pen}
use Rattle.path_flat.specs.Curves.{curve_point}

-- lines to the first so many of the 32 points of a curve
unfoldable pub curve_lines : ℕ → DevicePoint → DevicePoint → DevicePoint → DevicePoint → List Segment
curve_lines zero a b c d = []
curve_lines (suc n) a b c d = curve_lines n a b c d ++ Line (curve_point (n + 1) a b c d) ∷ []

-- where the pen is after a segment, and where the subpath began that it then stands in
abbrev pub pen_after : Pen → Segment → Pen
pen_after pen (Move p) = record { start = p; at = p }
pen_after pen (Line p) = record { start = pen.start; at = p }
pen_after pen (Curve b c d) = record { start = pen.start; at = d }
pen_after pen Close = record { start = pen.start; at = pen.start }

-- a segment as the pen draws it by lines
abbrev pub drawn : Pen → Segment → List Segment
drawn pen (Move p) = Move p ∷ []
drawn pen (Line p) = Line p ∷ []
drawn pen (Curve b c d) = curve_lines 32 pen.at b c d
drawn pen Close = Close ∷ []

-- the segments from a place of the pen on, by lines
abbrev pub drawn_from : Pen → List Segment → List Segment
drawn_from pen [] = []
drawn_from pen (segment ∷ segments) = drawn pen segment ++ drawn_from (pen_after pen segment) segments

-- the page's upper left corner, where a pen is that no segment has moved
abbrev pub resting : Pen
resting =
    record {
      start = record { x = record { count = pos 0 }; y = record { count = pos 0 }; near_x = (record { le = tt }, record { le = tt }); near_y = (record { le = tt }, record { le = tt }) };
      at = record { x = record { count = pos 0 }; y = record { count = pos 0 }; near_x = (record { le = tt }, record { le = tt }); near_y = (record { le = tt }, record { le = tt }) };
    }

-- the path with 32 lines in the place of each curve, and all else as it was
abbrev pub flattened : List Segment → List Segment
flattened segments = drawn_from resting segments
