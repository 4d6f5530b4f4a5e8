-- Paths.
use Rattle.std.specs.Prelude.{Bool, true, false, List, [], ◌∷◌, IsTrue}
use Rattle.ps_shapes.specs.declared.path.Segment.{Segment}
use Rattle.ps_shapes.specs.declared.path.Segment.TheVariants.{Move, Line, Curve, Close}

-- whether a segment begins a subpath
abbrev pub is_move : Segment → Bool
is_move (Move p) = true
is_move (Line p) = false
is_move (Curve p q r) = false
is_move Close = false

-- empty, or a Move comes first
abbrev pub is_path : List Segment → Bool
is_path [] = true
is_path (segment ∷ segments) = is_move segment

-- where there are segments, the first begins a subpath
abbrev pub IsPath : List Segment → Type 0
IsPath segments = IsTrue (is_path segments)
