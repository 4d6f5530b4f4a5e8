-- What an operator reads of its operands, the newest first: an operand, or the error of one that is absent or of another type.
use Rattle.std.specs.Prelude.{◌≡◌, ℕ, ℤ, ◌+◌, Bool, List, length, nat_lt, slice_get, if◌then◌else◌, Some, None, Result, Ok, Err}
use Rattle.ps_objects.specs.Access.{read_right, write_right, run_right}
use Rattle.ps_objects.specs.declared.cell.Cell.{Cell}
use Rattle.ps_objects.specs.declared.cell.SaveName.{SaveName}
use Rattle.ps_names.specs.declared.error_name.ErrorName.{ErrorName}
use Rattle.ps_names.specs.declared.error_name.ErrorName.TheVariants.{DictStackOverflow, StackUnderflow, StackOverflow, TypeCheck}
use Rattle.ps_objects.specs.declared.object.Object.{Object}
use Rattle.ps_objects.specs.declared.object.Kind.{Kind}
use Rattle.ps_objects.specs.declared.object.Kind.TheVariants as kind
use Rattle.ps_objects.specs.declared.objects.TheConstants.{DICT_STACK_LIMIT, OPERAND_LIMIT}
use Rattle.ps_objects.specs.declared.objects.FileName.{FileName}
use Rattle.ps_objects.specs.declared.objects.Interval.{Interval}
use Rattle.ps_objects.specs.declared.objects.Number.{Number}
use Rattle.ps_objects.specs.declared.objects.Number.TheVariants as number
use Rattle.ps_objects.specs.declared.refusal.Refusal.{Refusal}
use Rattle.ps_objects.specs.declared.refusal.Refusal.TheVariants as refusal

-- n operands are there
abbrev pub needed : ℕ → List Object → Result (Unit {0}) ErrorName
needed n xs = if nat_lt (length xs) n then Err StackUnderflow else Ok tt

-- n more operands stay within the limit
abbrev pub room_for : ℕ → List Object → Result (Unit {0}) ErrorName
room_for n xs = if nat_lt OPERAND_LIMIT (length xs + n) then Err StackOverflow else Ok tt

-- one more dictionary stays within the limit
abbrev pub dict_room : List Cell → Result (Unit {0}) ErrorName
dict_room cells = if nat_lt (length cells) DICT_STACK_LIMIT then Ok tt else Err DictStackOverflow

-- the operand that is so deep below the newest
abbrev pub object_at : ℕ → List Object → Result Object ErrorName
object_at depth xs = elim (slice_get xs depth) [ None ↦ Err StackUnderflow | Some x ↦ Ok x ]

-- what is read of an operand
abbrev pub operand : {A : Type 0} → (Object → Result A ErrorName) → ℕ → List Object → Result A ErrorName
operand read depth xs = elim (object_at depth xs) [ Err e ↦ Err e | Ok x ↦ read x ]

-- what is read of an operand of a type
abbrev pub typed : {A : Type 0} → (Kind → Result A ErrorName) → ℕ → List Object → Result A ErrorName
typed read depth xs = elim (object_at depth xs) [ Err e ↦ Err e | Ok x ↦ read x.kind ]

-- an integer
abbrev pub integer_of : Kind → Result ℤ ErrorName
integer_of (kind.Integer n) = Ok n
integer_of _ = Err TypeCheck

-- a truth value
abbrev pub boolean_of : Kind → Result Bool ErrorName
boolean_of (kind.Boolean b) = Ok b
boolean_of _ = Err TypeCheck

-- an integer or a real
abbrev pub number_of : Kind → Result Number ErrorName
number_of (kind.Integer n) = Ok (number.Integer n)
number_of (kind.Real r) = Ok (number.Real r)
number_of _ = Err TypeCheck

-- the cell of a dictionary
abbrev pub dict_of : Kind → Result Cell ErrorName
dict_of (kind.Dict cell) = Ok cell
dict_of _ = Err TypeCheck

-- the part of an array
abbrev pub array_of : Kind → Result Interval ErrorName
array_of (kind.Array interval _) = Ok interval
array_of _ = Err TypeCheck

-- the part of a string
abbrev pub string_of : Kind → Result Interval ErrorName
string_of (kind.Str interval) = Ok interval
string_of _ = Err TypeCheck

-- the text of a section is layer 0
abbrev pub file_of : Kind → Result FileName ErrorName
file_of (kind.File section) = Ok (record { section = section; layer = 0 })
file_of (kind.Filter section layer) = Ok (record { section = section; layer = layer })
file_of _ = Err TypeCheck

-- the name of a save
abbrev pub save_of : Kind → Result SaveName ErrorName
save_of (kind.Save save) = Ok save
save_of _ = Err TypeCheck

-- an executable array
abbrev pub procedure_of : Object → Result Interval ErrorName
procedure_of x = if x.exec then array_of x.kind else Err TypeCheck

-- the operand as an integer
abbrev pub integer_at : ℕ → List Object → Result ℤ ErrorName
integer_at = typed integer_of

-- the operand as a truth value
abbrev pub boolean_at : ℕ → List Object → Result Bool ErrorName
boolean_at = typed boolean_of

-- the operand as a number
abbrev pub number_at : ℕ → List Object → Result Number ErrorName
number_at = typed number_of

-- the operand as a dictionary
abbrev pub dict_at : ℕ → List Object → Result Cell ErrorName
dict_at = typed dict_of

-- the operand as an array
abbrev pub array_at : ℕ → List Object → Result Interval ErrorName
array_at = typed array_of

-- the operand as a string
abbrev pub string_at : ℕ → List Object → Result Interval ErrorName
string_at = typed string_of

-- the operand as a file
abbrev pub file_at : ℕ → List Object → Result FileName ErrorName
file_at = typed file_of

-- the operand as a save
abbrev pub save_at : ℕ → List Object → Result SaveName ErrorName
save_at = typed save_of

-- the operand as a procedure
abbrev pub procedure_at : ℕ → List Object → Result Interval ErrorName
procedure_at = operand procedure_of

-- what is read, unless memory ran out
abbrev pub Reads : {A : Type 0} → Result A ErrorName → Result A Refusal → Type 0
Reads r (Ok x) = r ≡ Ok x
Reads r (Err (refusal.Error e)) = r ≡ Err e
Reads _ (Err refusal.NoMemory) = Unit {0}

-- what the access of an operand lets be done with it
abbrev pub readable_at : ℕ → List Object → Result (Unit {0}) ErrorName
readable_at = operand (λ x. read_right x.access)

-- the operand may be written
abbrev pub writable_at : ℕ → List Object → Result (Unit {0}) ErrorName
writable_at = operand (λ x. write_right x.access)

-- the operand may be run
abbrev pub runnable_at : ℕ → List Object → Result (Unit {0}) ErrorName
runnable_at = operand (λ x. run_right x.access)
