-- The default entries of errors, and their names.
use Rattle.std.proofs.Common.{◌≡◌, refl, slice_get, Some}
use Rattle.ps_names.specs.declared.error_name.ErrorName.{ErrorName}
use Rattle.ps_names.specs.declared.error_name.ErrorName.TheVariants as error
use Rattle.ps_names.specs.ErrorName.{bytes_of}
use Rattle.ps_names.specs.Op.{default_entry}
use Rattle.ps_names.specs.Operators.{operator_names}

-- each under its error's name
pub entry_named : (e : ErrorName) → slice_get operator_names (default_entry e) ≡ Some (bytes_of e)
entry_named error.DictStackOverflow = refl
entry_named error.DictStackUnderflow = refl
entry_named error.ExecStackOverflow = refl
entry_named error.InvalidAccess = refl
entry_named error.InvalidExit = refl
entry_named error.InvalidFont = refl
entry_named error.InvalidRestore = refl
entry_named error.IoError = refl
entry_named error.LimitCheck = refl
entry_named error.NoCurrentPoint = refl
entry_named error.RangeCheck = refl
entry_named error.StackOverflow = refl
entry_named error.StackUnderflow = refl
entry_named error.SyntaxError = refl
entry_named error.Timeout = refl
entry_named error.TypeCheck = refl
entry_named error.Undefined = refl
entry_named error.UndefinedResult = refl
entry_named error.UnmatchedMark = refl
entry_named error.VmError = refl
