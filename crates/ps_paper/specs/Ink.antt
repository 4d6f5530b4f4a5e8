-- What a gray paints.
use Rattle.std.specs.Prelude.{ℕ, ℤ, Bool, ◌&&◌, List}
use Rattle.halftone.specs.Black.{is_black}
use Rattle.ps_shapes.specs.declared.span.Span.{Span}
use Rattle.ps_shapes.specs.Screen.{Screen}
use Rattle.ps_shapes.specs.Sheet.{Sheet, repainted}
use Rattle.ps_shapes.specs.Span.{is_in, is_in_all}

-- whether a gray makes the pixel black, by thresholds or, without them, by the start matrix
abbrev pub ink_of : ℤ → Screen → ℕ → ℕ → Bool
ink_of gray s x y = is_black x y gray s.width s.height s.bytes

-- the sheet with the ink of a gray at the pixels that pass the test
abbrev pub painted : Sheet → (ℕ → ℕ → Bool) → ℤ → Screen → Sheet
painted sheet test gray thresholds = repainted sheet test (ink_of gray thresholds)

-- in the spans and in all clips
abbrev pub clipped : List Span → List (List Span) → ℕ → ℕ → Bool
clipped spans clips x y = is_in spans x y && is_in_all clips x y
