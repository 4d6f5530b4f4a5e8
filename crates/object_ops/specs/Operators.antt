-- The operators of this crate.
use Rattle.std.specs.Prelude.{ℕ, Bool, ◌&&◌, nat_le, [], ◌∷◌}
use Rattle.ps_names.specs.declared.places.TheConstants as at
use Rattle.ps_kinds.specs.declared.state.State.{State}
use Rattle.ps_operator.specs.Tree.{Ask}
use Rattle.ps_operator.specs.Lawful.{IsLawful}
use Rattle.ps_operator.specs.Operators.{Operators, run_in}
use Rattle.object_ops.specs.Attributes.{type_, cvlit, cvx, xcheck}
use Rattle.object_ops.specs.Binding.{bind}
use Rattle.object_ops.specs.Accesses.{executeonly, readonly, noaccess, rcheck, wcheck, gcheck}

-- all of them
abbrev pub operators : Operators
operators =
    (at.TYPE, type_) ∷ (at.CVLIT, cvlit) ∷ (at.CVX, cvx) ∷ (at.XCHECK, xcheck)
    ∷ (at.EXECUTEONLY, executeonly) ∷ (at.READONLY, readonly) ∷ (at.NOACCESS, noaccess)
    ∷ (at.RCHECK, rcheck) ∷ (at.WCHECK, wcheck) ∷ (at.GCHECK, gcheck)
    ∷ (at.BIND, bind) ∷ []

-- they stand together in the list of operators
abbrev pub belongs : ℕ → Bool
belongs n = nat_le at.TYPE n && nat_le n at.BIND

-- what the operator at a place does
abbrev pub run : ℕ → State → Ask
run n s = run_in operators n s

-- each keeps the states that fit
abbrev pub OperatorsLaw : Type 0
OperatorsLaw = (n : ℕ) → IsLawful (run n)
