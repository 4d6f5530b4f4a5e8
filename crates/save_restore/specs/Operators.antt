-- The operators of this crate.
use Rattle.std.specs.Prelude.{ℕ, Bool, ◌&&◌, not, nat_eq, nat_le, [], ◌∷◌}
use Rattle.ps_names.specs.declared.places.TheConstants as at
use Rattle.ps_kinds.specs.declared.state.State.{State}
use Rattle.ps_operator.specs.Tree.{Ask}
use Rattle.ps_operator.specs.Lawful.{IsLawful}
use Rattle.ps_operator.specs.Operators.{Operators, run_in}
use Rattle.save_restore.specs.Modes.{setglobal, currentglobal, vmstatus, vmreclaim, realtime, usertime}
use Rattle.save_restore.specs.Restoring.{restore}
use Rattle.save_restore.specs.Saving.{save}

-- all of them
abbrev pub operators : Operators
operators =
    (at.SAVE, save) ∷ (at.RESTORE, restore) ∷ (at.SETGLOBAL, setglobal)
    ∷ (at.CURRENTGLOBAL, currentglobal) ∷ (at.VMSTATUS, vmstatus) ∷ (at.VMRECLAIM, vmreclaim)
    ∷ (at.REALTIME, realtime) ∷ (at.USERTIME, usertime) ∷ []

-- they stand together in the list of operators
abbrev pub belongs : ℕ → Bool
belongs n = nat_le at.SAVE n && nat_le n at.USERTIME

-- all but `restore` are done where they aren't refused
abbrev pub is_plain : ℕ → Bool
is_plain n = belongs n && not (nat_eq n at.RESTORE)

-- what the operator at a place does
abbrev pub run : ℕ → State → Ask
run n s = run_in operators n s

-- each keeps the states that fit
abbrev pub OperatorsLaw : Type 0
OperatorsLaw = (n : ℕ) → IsLawful (run n)
