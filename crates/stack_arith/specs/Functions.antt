-- Square roots, sines and arc tangents (section 8.2 of the language manual).
use Rattle.std.specs.Prelude.{ℤ, pos, int_le, if◌then◌else◌, Result, Ok, Err}
use Rattle.ps_shapes.specs.declared.numbers.Real.{Real}
use Rattle.ps_fixed.specs.Sines.{sine_of, cosine_of}
use Rattle.ps_fixed.specs.ArcTangents.{arc_tangent}
use Rattle.ps_fixed.specs.Roots.{root_of}
use Rattle.ps_names.specs.declared.error_name.ErrorName.{ErrorName}
use Rattle.ps_names.specs.declared.error_name.ErrorName.TheVariants.{RangeCheck}
use Rattle.ps_objects.specs.declared.objects.Number.{Number}
use Rattle.ps_objects.specs.declared.objects.Number.TheVariants as number
use Rattle.ps_kinds.specs.declared.state.State.{State}
use Rattle.ps_operator.specs.Tree.{Ask}
use Rattle.stack_arith.specs.Numbers.{as_real, defined, of_one, of_two}

-- rangecheck below 0
abbrev pub root : Number → Result Number ErrorName
root a =
    if int_le (pos 0) (as_real a).count
    then Ok (number.Real (record { count = root_of (as_real a).count })) else Err RangeCheck

-- the sine of an angle in degrees
abbrev pub sine : Number → Result Number ErrorName
sine a = Ok (number.Real (record { count = sine_of (as_real a).count }))

-- the cosine of an angle in degrees
abbrev pub cosine : Number → Result Number ErrorName
cosine a = Ok (number.Real (record { count = cosine_of (as_real a).count }))

-- the angle of a numerator over a denominator; undefinedresult where both are 0
abbrev pub angle : Number → Number → Result Number ErrorName
angle num den = defined (arc_tangent (as_real num).count (as_real den).count)

-- number sqrt real
abbrev pub sqrt : State → Ask
sqrt = of_one root

-- angle sin real
abbrev pub sin : State → Ask
sin = of_one sine

-- angle cos real
abbrev pub cos : State → Ask
cos = of_one cosine

-- numerator denominator atan angle
abbrev pub atan : State → Ask
atan = of_two angle
