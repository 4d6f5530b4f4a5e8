-- The operators of this crate.
use Rattle.std.specs.Prelude.{ℕ, Bool, ◌&&◌, ◌||◌, nat_eq, nat_le, [], ◌∷◌}
use Rattle.ps_names.specs.declared.places.TheConstants as at
use Rattle.ps_kinds.specs.declared.state.State.{State}
use Rattle.ps_operator.specs.Tree.{Ask}
use Rattle.ps_operator.specs.Lawful.{IsLawful}
use Rattle.ps_operator.specs.Operators.{Operators, run_in}
use Rattle.clip_ops.specs.Clips.{flattenpath, initclip, clip, eoclip}

-- all of them
abbrev pub operators : Operators
operators = (at.FLATTENPATH, flattenpath) ∷ (at.INITCLIP, initclip) ∷ (at.CLIP, clip) ∷ (at.EOCLIP, eoclip) ∷ []

-- they stand in two parts of the list of operators
abbrev pub belongs : ℕ → Bool
belongs n = nat_eq n at.FLATTENPATH || nat_le at.INITCLIP n && nat_le n at.EOCLIP

-- what the operator at a place does
abbrev pub run : ℕ → State → Ask
run n s = run_in operators n s

-- each operator keeps the states that fit
abbrev pub OperatorsLaw : Type 0
OperatorsLaw = (n : ℕ) → IsLawful (run n)
