-- Spans on a paper, in any order.
use Rattle.std.specs.Prelude.{ℕ, ◌+◌, ◌*◌, ◌<◌, ◌≤◌, max, List, All}
use Rattle.ps_shapes.specs.declared.span.Span.{Span}

-- on a paper of that size, and none empty
abbrev pub IsScattered : ℕ → ℕ → List Span → Type 0
IsScattered width height spans = All (λ s. (s.row < height) × (s.first < s.past) × (s.past ≤ width)) spans

-- the place of a span's first pixel in the order of rows
abbrev pub place_of : Span → ℕ
place_of s = s.row * 4294967296 + s.first

-- a run with a span that begins in it
abbrev pub joined_of : Span → Span → Span
joined_of s t = record { row = s.row; first = s.first; past = max s.past t.past }
