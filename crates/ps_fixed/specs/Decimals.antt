-- Decimals: a whole number times a power of ten, rounded to the nearest count.
use Rattle.std.specs.Prelude.{ℕ, suc, ◌*◌, ◌^◌, Bool, true, false, ℤ, pos, negsuc, neg_ℤ, Result}
use Rattle.ps_shapes.specs.declared.numbers.Real.{Real}
use Rattle.ps_fixed.specs.declared.rounding.Undefined.{Undefined}
use Rattle.ps_fixed.specs.Rounding.{nearest_quotient, real_of}

-- n, or -n
abbrev pub signed_by : Bool → ℕ → ℤ
signed_by true n = neg_ℤ (pos n)
signed_by false n = pos n

-- m·10^n
unfoldable pub decimal_up : Bool → ℕ → ℕ → Result Real Undefined
decimal_up negative m n = real_of (signed_by negative (m * 2 ^ 24 * 10 ^ n))

-- m / 10^n
unfoldable pub decimal_down : Bool → ℕ → ℕ → Result Real Undefined
decimal_down negative m n = real_of (nearest_quotient (signed_by negative (m * 2 ^ 24)) (10 ^ n))

-- m·10^exponent with that sign, to the nearest count
abbrev pub decimal_of : Bool → ℕ → ℤ → Result Real Undefined
decimal_of negative m (pos n) = decimal_up negative m n
decimal_of negative m (negsuc n) = decimal_down negative m (suc n)
