-- Rounding to whole counts, and the range of a real. Whole numbers have no bounds here.
use Rattle.std.specs.Prelude.{ℕ, ◌+◌, ◌^◌, Bool, if◌then◌else◌, nat_lt, ℤ, pos, ◌+ℤ◌, Result, Ok, Err}
use Rattle.std.specs.Int.Signed.{mag, shr_z}
use Rattle.ps_shapes.specs.declared.numbers.Real.{Real}
use Rattle.ps_fixed.specs.declared.rounding.Undefined.{Undefined}

-- the greatest whole number not above z / n
abbrev pub floor_of : ℤ → ℕ → ℤ
floor_of z n = shr_z z n

-- the greatest whole number not above p / q + 1/2
unfoldable pub nearest_quotient : ℤ → ℕ → ℤ
nearest_quotient p q = floor_of (p +ℤ p +ℤ pos q) (q + q)

-- p counts of 2^-48 in counts of 2^-24: the greatest whole number not above p / 2^24 + 1/2
unfoldable pub nearest_count : ℤ → ℤ
nearest_count p = nearest_quotient p (2 ^ 24)

-- -2^63 ≤ z < 2^63
abbrev pub fits_i64 : ℤ → Bool
fits_i64 z = nat_lt (mag z) (2 ^ 63)

-- the real of that count; Undefined where the count leaves an i64
unfoldable pub real_of : ℤ → Result Real Undefined
real_of z = if fits_i64 z then Ok (record { count = z }) else Err (record {})
