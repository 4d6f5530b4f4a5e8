-- The default entry of an error is found by its place.
use Rattle.std.proofs.Common.{◌≡◌, ℕ, refl, subst}
use Rattle.ps_names.specs.declared.error_name.ErrorName.{ErrorName}
use Rattle.ps_names.specs.declared.error_name.ErrorName.TheVariants as error
use Rattle.ps_names.specs.Op.{default_entry}
use Rattle.ps_kinds.specs.declared.state.State.{State}
use Rattle.error_ops.specs.Operators.{run}
use Rattle.error_ops.specs.Recording.{records}

entry_records : (e : ErrorName) (s : State) → run (default_entry e) s ≡ records e s
entry_records error.DictStackOverflow s = refl
entry_records error.DictStackUnderflow s = refl
entry_records error.ExecStackOverflow s = refl
entry_records error.InvalidAccess s = refl
entry_records error.InvalidExit s = refl
entry_records error.InvalidFont s = refl
entry_records error.InvalidRestore s = refl
entry_records error.IoError s = refl
entry_records error.LimitCheck s = refl
entry_records error.NoCurrentPoint s = refl
entry_records error.RangeCheck s = refl
entry_records error.StackOverflow s = refl
entry_records error.StackUnderflow s = refl
entry_records error.SyntaxError s = refl
entry_records error.Timeout s = refl
entry_records error.TypeCheck s = refl
entry_records error.Undefined s = refl
entry_records error.UndefinedResult s = refl
entry_records error.UnmatchedMark s = refl
entry_records error.VmError s = refl

pub run_records : (e : ErrorName) (n : ℕ) (s : State) → default_entry e ≡ n → run n s ≡ records e s
run_records e n s p = subst (λ n. run n s ≡ records e s) p (entry_records e s)
