-- Pixels that spans share.
use Rattle.std.specs.Prelude.{Bool, ◌&&◌, max, min, nat_eq, nat_lt}
use Rattle.ps_shapes.specs.declared.span.Span.{Span}

-- whether two spans, neither empty, share a pixel
abbrev pub touches : Span → Span → Bool
touches s t = nat_eq t.row s.row && nat_lt t.first s.past && nat_lt s.first t.past

-- what two spans of one row share
abbrev pub shared_of : Span → Span → Span
shared_of s t = record { row = s.row; first = max s.first t.first; past = min s.past t.past }
