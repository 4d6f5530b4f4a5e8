-- The operators of this crate.
use Rattle.std.specs.Prelude.{ℕ, Bool, ◌&&◌, nat_le, [], ◌∷◌}
use Rattle.ps_names.specs.declared.places.TheConstants as at
use Rattle.ps_kinds.specs.declared.state.State.{State}
use Rattle.ps_operator.specs.Tree.{Ask}
use Rattle.ps_operator.specs.Lawful.{IsLawful}
use Rattle.ps_operator.specs.Operators.{Operators, run_in}
use Rattle.text_ops.specs.Strings.{string, search, anchorsearch}
use Rattle.text_ops.specs.Conversions.{cvs, cvrs, cvn, cvi, cvr}
use Rattle.text_ops.specs.Messages.{print, equals_sign}
use Rattle.text_ops.specs.Listing.{two_equals_signs, stack, pstack}

-- all of them
abbrev pub operators : Operators
operators =
    (at.STRING, string) ∷ (at.SEARCH, search) ∷ (at.ANCHORSEARCH, anchorsearch) ∷ (at.CVS, cvs)
    ∷ (at.CVRS, cvrs) ∷ (at.CVN, cvn) ∷ (at.CVI, cvi) ∷ (at.CVR, cvr) ∷ (at.PRINT, print)
    ∷ (at.EQUALS_SIGN, equals_sign) ∷ (at.TWO_EQUALS_SIGNS, two_equals_signs)
    ∷ (at.STACK, stack) ∷ (at.PSTACK, pstack) ∷ []

-- those that leave no message
abbrev pub is_silent : ℕ → Bool
is_silent n = nat_le at.STRING n && nat_le n at.CVR

-- those that leave one
abbrev pub is_loud : ℕ → Bool
is_loud n = nat_le at.PRINT n && nat_le n at.PSTACK

-- they stand together in the list of operators
abbrev pub belongs : ℕ → Bool
belongs n = nat_le at.STRING n && nat_le n at.PSTACK

-- what the operator at a place does
abbrev pub run : ℕ → State → Ask
run n s = run_in operators n s

-- each keeps the states that fit
abbrev pub OperatorsLaw : Type 0
OperatorsLaw = (n : ℕ) → IsLawful (run n)
