-- The operators of this crate.
use Rattle.std.specs.Prelude.{ℕ, Bool, not, ◌&&◌, ◌||◌, nat_eq, nat_le, [], ◌∷◌}
use Rattle.ps_names.specs.declared.places.TheConstants as at
use Rattle.ps_kinds.specs.declared.state.State.{State}
use Rattle.ps_operator.specs.Tree.{Ask}
use Rattle.ps_operator.specs.Lawful.{IsLawful}
use Rattle.ps_operator.specs.Operators.{Operators, run_in}
use Rattle.paint_ops.specs.Filling.{fill, eofill}
use Rattle.paint_ops.specs.Rectangles.{rectfill}
use Rattle.paint_ops.specs.Pages.{erasepage, showpage, copypage}

-- all of them
abbrev pub operators : Operators
operators =
    (at.FILL, fill) ∷ (at.EOFILL, eofill) ∷ (at.RECTFILL, rectfill)
    ∷ (at.ERASEPAGE, erasepage) ∷ (at.SHOWPAGE, showpage) ∷ (at.COPYPAGE, copypage) ∷ []

-- they stand in three parts of the list of operators
abbrev pub belongs : ℕ → Bool
belongs n =
    nat_le at.FILL n && nat_le n at.EOFILL
    || nat_eq n at.RECTFILL
    || nat_le at.ERASEPAGE n && nat_le n at.COPYPAGE

-- all but those that give the page out are done where they aren't refused
abbrev pub is_plain : ℕ → Bool
is_plain n = belongs n && not (nat_eq n at.SHOWPAGE) && not (nat_eq n at.COPYPAGE)

-- what the operator at a place does
abbrev pub run : ℕ → State → Ask
run n s = run_in operators n s

-- each operator keeps the states that fit
abbrev pub OperatorsLaw : Type 0
OperatorsLaw = (n : ℕ) → IsLawful (run n)
