-- Objects as keys.
use Rattle.std.specs.Prelude.{ℕ, pos, negsuc, ◌&&◌, ◌==◌, List, false, if◌then◌else◌, int_le, int_div, int_rem, Option, Some, None, Result, Ok, Err}
use Rattle.std.specs.Ordering.{int_eq}
use Rattle.ps_shapes.specs.declared.numbers.Real.{Real}
use Rattle.ps_shapes.specs.declared.numbers.TheConstants.{ONE}
use Rattle.ps_objects.specs.declared.access.Access.TheVariants.{Unlimited}
use Rattle.ps_objects.specs.declared.cell.Cell.{Cell}
use Rattle.ps_names.specs.declared.error_name.ErrorName.{ErrorName}
use Rattle.ps_names.specs.declared.error_name.ErrorName.TheVariants.{TypeCheck}
use Rattle.ps_objects.specs.declared.key.Key.{Key}
use Rattle.ps_objects.specs.declared.key.Key.TheVariants as key
use Rattle.ps_objects.specs.declared.key.KeyForm.{KeyForm}
use Rattle.ps_objects.specs.declared.key.KeyForm.TheVariants as form
use Rattle.ps_objects.specs.Operands.{typed}
use Rattle.ps_objects.specs.declared.object.Object.{Object}
use Rattle.ps_objects.specs.declared.object.Kind.{Kind}
use Rattle.ps_objects.specs.declared.object.Kind.TheVariants as kind

-- a whole real with 32 bits is the integer
abbrev pub real_key : Real → Key
real_key real =
    let whole = int_div real.count ONE in
    if int_eq (int_rem real.count ONE) (pos 0) && (int_le (negsuc 2147483647) whole && int_le whole (pos 2147483647)) then key.Integer whole else key.Real real

-- an object as a key: null is a typecheck, and of a string the bytes count
abbrev pub key_form_of : Kind → Result KeyForm ErrorName
key_form_of (kind.Integer n) = Ok (form.Key (key.Integer n))
key_form_of (kind.Real r) = Ok (form.Key (real_key r))
key_form_of (kind.Boolean b) = Ok (form.Key (key.Boolean b))
key_form_of kind.Null = Err TypeCheck
key_form_of kind.Mark = Ok (form.Key key.Mark)
key_form_of (kind.Name n) = Ok (form.Key (key.Name n))
key_form_of (kind.Operator op) = Ok (form.Key (key.Operator op))
key_form_of (kind.Str interval) = Ok (form.Text interval)
key_form_of (kind.Array interval packed) = Ok (form.Key (key.Array interval packed))
key_form_of (kind.Dict cell) = Ok (form.Key (key.Dict cell))
key_form_of (kind.File section) = Ok (form.Key (key.File section 0))
key_form_of (kind.Filter section layer) = Ok (form.Key (key.File section layer))
key_form_of (kind.Save save) = Ok (form.Key (key.Save save))
key_form_of (kind.FontId cell) = Ok (form.Key (key.FontId cell))

-- the operand as a key
abbrev pub key_form_at : ℕ → List Object → Result KeyForm ErrorName
key_form_at = typed key_form_of

-- the object that a key is told as; the text of a section is layer 0
abbrev pub key_kind : Key → Kind
key_kind (key.Name n) = kind.Name n
key_kind (key.Integer n) = kind.Integer n
key_kind (key.Real r) = kind.Real r
key_kind (key.Boolean b) = kind.Boolean b
key_kind (key.Operator op) = kind.Operator op
key_kind (key.Dict cell) = kind.Dict cell
key_kind (key.Array interval packed) = kind.Array interval packed
key_kind (key.File section layer) = if layer == 0 then kind.File section else kind.Filter section layer
key_kind (key.Save save) = kind.Save save
key_kind (key.FontId cell) = kind.FontId cell
key_kind key.Mark = kind.Mark

-- a key as programs are told it: a literal object with unlimited access
abbrev pub told_key : Key → Object
told_key k = record { kind = key_kind k; exec = false; access = Unlimited }

-- the cell that a key names
abbrev pub cell_of_key : Key → Option Cell
cell_of_key (key.Dict cell) = Some cell
cell_of_key (key.Array interval _) = Some interval.cell
cell_of_key _ = None
