-- Sums, products and quotients.
use Rattle.std.specs.Prelude.{zero, suc, ◌^◌, ℤ, pos, negsuc, ◌+ℤ◌, ◌-ℤ◌, ◌*ℤ◌, neg_ℤ, Result, Ok, Err}
use Rattle.ps_shapes.specs.declared.numbers.Real.{Real}
use Rattle.ps_fixed.specs.declared.rounding.Undefined.{Undefined}
use Rattle.ps_fixed.specs.Rounding.{nearest_quotient, nearest_count, real_of}

-- a + b
abbrev pub sum_of : Real → Real → Result Real Undefined
sum_of a b = real_of (a.count +ℤ b.count)

-- a - b
abbrev pub difference_of : Real → Real → Result Real Undefined
difference_of a b = real_of (a.count -ℤ b.count)

-- -a
abbrev pub negation_of : Real → Result Real Undefined
negation_of a = real_of (neg_ℤ a.count)

-- a·b / 2^24, to the nearest count
abbrev pub product_of : Real → Real → Result Real Undefined
product_of a b = real_of (nearest_count (a.count *ℤ b.count))

-- p / d, to the nearest count, for a divisor of either sign; Undefined for 0
abbrev pub nearest_real : ℤ → ℤ → Result Real Undefined
nearest_real p (pos zero) = Err (record {})
nearest_real p (pos (suc n)) = real_of (nearest_quotient p (suc n))
nearest_real p (negsuc n) = real_of (nearest_quotient (neg_ℤ p) (suc n))

-- a·2^24 / b, to the nearest count
abbrev pub quotient_of : Real → Real → Result Real Undefined
quotient_of a b = nearest_real (a.count *ℤ pos (2 ^ 24)) b.count

-- what k gives of the first result, where that is one
abbrev pub and_then : {A B : Type 0} → Result A Undefined → (A → Result B Undefined) → Result B Undefined
and_then (Ok x) k = k x
and_then (Err e) k = Err e
