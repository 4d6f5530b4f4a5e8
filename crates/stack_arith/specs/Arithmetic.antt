-- Sums, differences, products and quotients (section 8.2 of the language manual).
use Rattle.std.specs.Prelude.{ℤ, pos, ◌+ℤ◌, ◌-ℤ◌, ◌*ℤ◌, int_div, int_rem, if◌then◌else◌}
use Rattle.std.specs.Prelude.{Result, Ok, Err}
use Rattle.std.specs.Ordering.{int_eq}
use Rattle.ps_shapes.specs.declared.numbers.Real.{Real}
use Rattle.ps_fixed.specs.declared.rounding.Undefined.{Undefined}
use Rattle.ps_fixed.specs.Arithmetic.{sum_of, difference_of, product_of, quotient_of}
use Rattle.ps_names.specs.declared.error_name.ErrorName.{ErrorName}
use Rattle.ps_names.specs.declared.error_name.ErrorName.TheVariants.{UndefinedResult}
use Rattle.ps_objects.specs.declared.objects.Number.{Number}
use Rattle.ps_objects.specs.declared.objects.Number.TheVariants as number
use Rattle.ps_kinds.specs.declared.state.State.{State}
use Rattle.ps_operator.specs.Tree.{Ask}
use Rattle.stack_arith.specs.Numbers.{as_real, defined, fits_i32, integer_or, of_two, of_integers}

-- Two integers give an integer by f, where it has 32 bits; all else gives a real by g.
abbrev pub computed : (ℤ → ℤ → ℤ) → (Real → Real → Result Real Undefined) → Number → Number
    → Result Number ErrorName
computed f g (number.Integer a) (number.Integer b) =
    integer_or (f a b) (defined (g (as_real (number.Integer a)) (as_real (number.Integer b))))
computed f g a b = defined (g (as_real a) (as_real b))

-- a + b
abbrev pub sum : Number → Number → Result Number ErrorName
sum a b = computed ◌+ℤ◌ sum_of a b

-- a - b
abbrev pub difference : Number → Number → Result Number ErrorName
difference a b = computed ◌-ℤ◌ difference_of a b

-- a·b
abbrev pub product : Number → Number → Result Number ErrorName
product a b = computed ◌*ℤ◌ product_of a b

-- always a real
abbrev pub quotient : Number → Number → Result Number ErrorName
quotient a b = defined (quotient_of (as_real a) (as_real b))

-- cut toward 0; undefinedresult for the divisor 0 and out of 32 bits
abbrev pub whole_quotient : ℤ → ℤ → Result ℤ ErrorName
whole_quotient a b =
    if int_eq b (pos 0) then Err UndefinedResult
    else if fits_i32 (int_div a b) then Ok (int_div a b) else Err UndefinedResult

-- what the whole quotient leaves, with the sign of the dividend
abbrev pub remainder : ℤ → ℤ → Result ℤ ErrorName
remainder a b = if int_eq b (pos 0) then Err UndefinedResult else Ok (int_rem a b)

-- number number add number
abbrev pub add : State → Ask
add = of_two sum

-- number number sub number
abbrev pub sub : State → Ask
sub = of_two difference

-- number number mul number
abbrev pub mul : State → Ask
mul = of_two product

-- number number div real
abbrev pub div : State → Ask
div = of_two quotient

-- integer integer idiv integer
abbrev pub idiv : State → Ask
idiv = of_integers whole_quotient

-- integer integer mod integer
abbrev pub mod_ : State → Ask
mod_ = of_integers remainder
