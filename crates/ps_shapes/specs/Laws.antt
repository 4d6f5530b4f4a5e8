-- Each test is an equivalence.
use Rattle.std.specs.Prelude.{nat_eq}
use Rattle.std.specs.Cmp.{IsEquivalence, and_equiv, on_equiv, nat_eq_equiv, int_eq_equiv, bool_eq_equiv}
use Rattle.std.specs.Cmp.Lexicographic.{lists_equiv}
use Rattle.ps_shapes.specs.Same.{same_point, same_span, same_screen, same_sheet}

-- of points
pub same_point_equivalence : IsEquivalence same_point
same_point_equivalence = and_equiv (on_equiv (λ p. p.x) int_eq_equiv) (on_equiv (λ p. p.y) int_eq_equiv)

-- of spans
pub same_span_equivalence : IsEquivalence same_span
same_span_equivalence =
    and_equiv (on_equiv (λ s. s.row) nat_eq_equiv) (and_equiv (on_equiv (λ s. s.first) nat_eq_equiv) (on_equiv (λ s. s.past) nat_eq_equiv))

-- of tables of thresholds
pub same_screen_equivalence : IsEquivalence same_screen
same_screen_equivalence =
    and_equiv (on_equiv (λ s. s.width) nat_eq_equiv) (and_equiv (on_equiv (λ s. s.height) nat_eq_equiv) (on_equiv (λ s. s.bytes) (lists_equiv nat_eq_equiv)))

-- of sheets
pub same_sheet_equivalence : IsEquivalence same_sheet
same_sheet_equivalence =
    and_equiv (on_equiv (λ s. s.width) nat_eq_equiv)
    (and_equiv (on_equiv (λ s. s.height) nat_eq_equiv) (on_equiv (λ s. s.rows) (lists_equiv (lists_equiv bool_eq_equiv))))
