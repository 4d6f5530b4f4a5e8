-- The operators of this crate: the default entries of errors.
use Rattle.std.specs.Prelude.{ℕ, Bool, ◌&&◌, nat_le, nat_lt, map}
use Rattle.ps_names.specs.Op.{default_entry}
use Rattle.ps_names.specs.Operators.{errors}
use Rattle.ps_names.specs.declared.places.TheConstants as at
use Rattle.ps_kinds.specs.declared.state.State.{State}
use Rattle.ps_operator.specs.Lawful.{IsLawful}
use Rattle.ps_operator.specs.Operators.{Operators, run_in}
use Rattle.ps_operator.specs.Tree.{Ask}
use Rattle.error_ops.specs.Recording.{records}

-- one for each error
abbrev pub operators : Operators
operators = map (λ line. (default_entry line.0, records line.0)) errors

-- they are the last in the list of operators
abbrev pub belongs : ℕ → Bool
belongs n = nat_le at.FIRST_DEFAULT_ENTRY n && nat_lt n at.OPERATOR_COUNT

-- what the operator at a place does
abbrev pub run : ℕ → State → Ask
run n s = run_in operators n s

-- each keeps the states that fit
abbrev pub OperatorsLaw : Type 0
OperatorsLaw = (n : ℕ) → IsLawful (run n)
