-- Spans of pixels.
use Rattle.std.specs.Prelude.{◌≡◌, ℕ, ◌<◌, ◌≤◌, ◌&&◌, Bool, List, All, AllPairs, nat_eq, nat_le, nat_lt}
use Rattle.std.specs.List.{list_any, list_all}
use Rattle.ps_shapes.specs.declared.span.Span.{Span}

-- the span holds the pixel (x, y)
abbrev pub holds : ℕ → ℕ → Span → Bool
holds x y s = nat_eq s.row y && nat_le s.first x && nat_lt x s.past

-- one of the spans holds the pixel (x, y)
abbrev pub is_in : List Span → ℕ → ℕ → Bool
is_in spans x y = list_any (holds x y) spans

-- each of the lists holds the pixel (x, y)
abbrev pub is_in_all : List (List Span) → ℕ → ℕ → Bool
is_in_all clips x y = list_all (λ spans. is_in spans x y) clips

-- in an earlier row, or left in the same row with a pixel between them
abbrev pub IsBefore : Span → Span → Type 0
IsBefore s t = (s.row ≤ t.row) × (s.row ≡ t.row → s.past < t.first)

-- in order, none empty, no two touching
pub record IsOrdered (spans : List Span) : Type 0 where
  pub filled : All (λ s. s.first < s.past) spans
  pub apart : AllPairs IsBefore spans

-- on a paper of that size
abbrev pub IsOnPaper : ℕ → ℕ → List Span → Type 0
IsOnPaper width height spans = All (λ s. (s.row < height) × (s.past ≤ width)) spans
