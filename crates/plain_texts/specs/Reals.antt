-- The text of a real: up to six digits behind the point, and one at least.
use Rattle.std.specs.Prelude.{ℕ, zero, suc, ◌+◌, ◌*◌, ◌/◌, ◌%◌, ◌^◌, ℤ, unsigned_abs, Bool, ◌&&◌, nat_lt, ◌==◌, List, [], ◌∷◌, ◌++◌, codes, if◌then◌else◌}
use Rattle.std.specs.Fmt.{decimal}
use Rattle.std.specs.Int.{is_negative}

-- a count of 2^-24 in millionths, to the nearest, halves upward
abbrev pub millionths : ℕ → ℕ
millionths count = (count * 10 ^ 6 + 2 ^ 23) / 2 ^ 24

-- a digit in front of others; a zero in front of none falls away
abbrev pub digit_before : ℕ → List ℕ → List ℕ
digit_before d [] = if d == 0 then [] else (48 + d) ∷ []
digit_before d (e ∷ es) = (48 + d) ∷ e ∷ es

-- n digits of a number below 10^n, without the zeros at their end
unfoldable pub digits_to_the_last : ℕ → ℕ → List ℕ
digits_to_the_last zero m = []
digits_to_the_last (suc n) m = digit_before (m / 10 ^ n) (digits_to_the_last n (m % 10 ^ n))

-- behind the point: six digits without the zeros at their end, but for the first
abbrev pub fraction : ℕ → List ℕ
fraction m = (48 + m / 100000) ∷ digits_to_the_last 5 (m % 100000)

-- a minus, where there is one
abbrev pub sign : Bool → List ℕ
sign negative = if negative then codes "-" else []

-- the whole millionths and those behind the point; no minus where all are 0
abbrev pub in_millionths : Bool → ℕ → List ℕ
in_millionths negative m =
    sign (negative && nat_lt 0 m) ++ decimal (m / 1000000) ++ codes "." ++ fraction (m % 1000000)

-- the real of a count
abbrev pub real_text : ℤ → List ℕ
real_text count = in_millionths (is_negative count) (millionths (unsigned_abs count))
