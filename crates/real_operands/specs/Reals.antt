-- Numbers as reals.
use Rattle.std.specs.Prelude.{ℕ, pos, ◌*ℤ◌, List, Result, Ok, Err}
use Rattle.ps_shapes.specs.declared.numbers.Real.{Real}
use Rattle.ps_fixed.specs.declared.rounding.Undefined.{Undefined}
use Rattle.ps_names.specs.declared.error_name.ErrorName.{ErrorName}
use Rattle.ps_names.specs.declared.error_name.ErrorName.TheVariants.{UndefinedResult}
use Rattle.ps_objects.specs.declared.object.Object.{Object}
use Rattle.ps_objects.specs.declared.objects.Number.{Number}
use Rattle.ps_objects.specs.declared.objects.Number.TheVariants as number
use Rattle.ps_objects.specs.Operands.{number_at}

-- the number as a real
abbrev pub as_real : Number → Real
as_real (number.Integer n) = record { count = n *ℤ pos 16777216 }
as_real (number.Real r) = r

-- what the arithmetic gives, or undefinedresult
abbrev pub defined : {A : Type 0} → Result A Undefined → Result A ErrorName
defined (Ok value) = Ok value
defined (Err _) = Err UndefinedResult

-- the number that is so deep below the newest operand, as a real
abbrev pub real_at : ℕ → List Object → Result Real ErrorName
real_at depth xs = elim (number_at depth xs) [ Err e ↦ Err e | Ok n ↦ Ok (as_real n) ]
