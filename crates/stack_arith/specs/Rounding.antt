-- Absolute values, negation and rounding (section 8.2 of the language manual).
use Rattle.std.specs.Prelude.{ℤ, pos, ◌+ℤ◌, ◌*ℤ◌, neg_ℤ, int_div, unsigned_abs, Result, Ok, ◌^◌}
use Rattle.ps_shapes.specs.declared.numbers.Real.{Real}
use Rattle.ps_fixed.specs.Rounding.{floor_of, real_of}
use Rattle.ps_names.specs.declared.error_name.ErrorName.{ErrorName}
use Rattle.ps_objects.specs.declared.objects.Number.{Number}
use Rattle.ps_objects.specs.declared.objects.Number.TheVariants as number
use Rattle.ps_kinds.specs.declared.state.State.{State}
use Rattle.ps_operator.specs.Tree.{Ask}
use Rattle.stack_arith.specs.Numbers.{as_real, defined, integer_or, of_one}

-- An integer, where it has 32 bits, is changed by f; all else is a real whose count is changed by f.
abbrev pub changed : (ℤ → ℤ) → Number → Result Number ErrorName
changed f (number.Integer n) = integer_or (f n) (defined (real_of (f n *ℤ pos 16777216)))
changed f (number.Real r) = defined (real_of (f r.count))

-- an integer stays; of a real, the whole number that f gives of its count
abbrev pub rounded : (ℤ → ℤ) → Number → Result Number ErrorName
rounded f (number.Integer n) = Ok (number.Integer n)
rounded f (number.Real r) = defined (real_of (f r.count *ℤ pos 16777216))

-- the greatest whole number not above so many counts
abbrev pub floor_of_count : ℤ → ℤ
floor_of_count z = floor_of z (2 ^ 24)

-- the least whole number not below so many counts
abbrev pub ceiling_of_count : ℤ → ℤ
ceiling_of_count z = neg_ℤ (floor_of_count (neg_ℤ z))

-- the nearest whole number to so many counts, the greater of two that are equally near
abbrev pub nearest_to_count : ℤ → ℤ
nearest_to_count z = floor_of_count (z +ℤ pos (2 ^ 23))

-- the whole part of so many counts
abbrev pub whole_part : ℤ → ℤ
whole_part z = int_div z (pos 16777216)

-- the least whole number not below it
abbrev pub rounded_up : Number → Result Number ErrorName
rounded_up a = rounded ceiling_of_count a

-- the greatest whole number not above it
abbrev pub rounded_down : Number → Result Number ErrorName
rounded_down a = rounded floor_of_count a

-- the nearest whole number
abbrev pub rounded_to_nearest : Number → Result Number ErrorName
rounded_to_nearest a = rounded nearest_to_count a

-- the number without its fraction
abbrev pub without_fraction : Number → Result Number ErrorName
without_fraction a = rounded whole_part a

-- the absolute value
abbrev pub magnitude : Number → Result Number ErrorName
magnitude a = changed (λ z. pos (unsigned_abs z)) a

-- its negative
abbrev pub negative : Number → Result Number ErrorName
negative a = changed neg_ℤ a

-- ---- the operators

-- number abs number
abbrev pub abs : State → Ask
abs = of_one magnitude

-- number neg number
abbrev pub neg : State → Ask
neg = of_one negative

-- number ceiling number
abbrev pub ceiling : State → Ask
ceiling = of_one rounded_up

-- number floor number
abbrev pub floor : State → Ask
floor = of_one rounded_down

-- number round number
abbrev pub round : State → Ask
round = of_one rounded_to_nearest

-- number truncate number
abbrev pub truncate : State → Ask
truncate = of_one without_fraction
