-- Significands that are read digit by digit.
use Rattle.std.specs.Prelude.{◌≡◌, ℕ, ◌+◌, ◌*◌, min, ℤ, pos, negsuc, ◌<ℤ◌, ◌&&◌, ◌==◌, nat_lt, List, [], ◌∷◌, length, ◌⊎◌, if◌then◌else◌}
use Rattle.std.specs.Str.Parse.{digits_value}
use Rattle.ps_fixed.specs.Decimals.{signed_by}
use Rattle.ps_scan.specs.Numbers.{is_negative, unsigned, significant, significand}
use Rattle.ps_scan.specs.declared.reals.Significand.{Significand}

-- one more digit behind the others
abbrev pub digit_behind : Significand → ℕ → Significand
digit_behind before digit =
    if before.digits == 0 && digit == 0 then before
    else record {
      value = if nat_lt before.digits 18 then before.value * 10 + digit else before.value;
      digits = before.digits + 1;
    }

-- the significand of a mantissa, and how many significant digits it has
pub record IsSignificand (found : Significand) (mantissa : List ℕ) : Type 0 where
  pub value : found.value ≡ significand mantissa
  pub digits : found.digits ≡ length (significant mantissa)

-- the value of an exponent, at most so great
abbrev pub capped_exponent : ℕ → List ℕ → ℤ
capped_exponent most [] = pos 0
capped_exponent most (mark ∷ bs) = signed_by (is_negative bs) (min (digits_value 10 (unsigned bs)) most)

-- powers of ten that give one real: the same, or both beyond the range, or both rounded to nothing
abbrev pub IsNear : ℤ → ℤ → Type 0
IsNear x y = (x ≡ y) ⊎ (((pos 12 <ℤ x) × (pos 12 <ℤ y)) ⊎ ((x <ℤ negsuc 37) × (y <ℤ negsuc 37)))
