-- Tests whether two values are the same.
use Rattle.std.specs.Prelude.{Bool, nat_eq}
use Rattle.std.specs.Bool.{beq}
use Rattle.std.specs.Ordering.{on, int_eq, eq_of_both}
use Rattle.std.specs.Cmp.Lexicographic.{pointwise}
use Rattle.ps_shapes.specs.declared.polygon.Point.{Point}
use Rattle.ps_shapes.specs.declared.span.Span.{Span}
use Rattle.ps_shapes.specs.Screen.{Screen}
use Rattle.ps_shapes.specs.Sheet.{Sheet}

-- the same place
abbrev pub same_point : Point → Point → Bool
same_point = eq_of_both (on (λ p. p.x) int_eq) (on (λ p. p.y) int_eq)

-- the same row and columns
abbrev pub same_span : Span → Span → Bool
same_span = eq_of_both (on (λ s. s.row) nat_eq) (eq_of_both (on (λ s. s.first) nat_eq) (on (λ s. s.past) nat_eq))

-- the same size and thresholds
abbrev pub same_screen : Screen → Screen → Bool
same_screen = eq_of_both (on (λ s. s.width) nat_eq) (eq_of_both (on (λ s. s.height) nat_eq) (on (λ s. s.bytes) (pointwise nat_eq)))

-- the same size and pixels
abbrev pub same_sheet : Sheet → Sheet → Bool
same_sheet = eq_of_both (on (λ s. s.width) nat_eq) (eq_of_both (on (λ s. s.height) nat_eq) (on (λ s. s.rows) (pointwise (pointwise beq))))
