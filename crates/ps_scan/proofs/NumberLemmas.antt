-- Values of digits.
use Rattle.std.proofs.Common.{◌≡◌, ℕ, ◌+◌, ◌*◌, ◌<◌, ◌≤◌, min, List, length, get_or, take, arith, refl, sym, inl, inr, ◌∙◌, ap}
use Rattle.std.specs.Char.{digit_value}
use Rattle.std.specs.Str.Parse.{digits_value}
use Rattle.std.proofs.lemmas.Bool.{cases_lt}
use Rattle.std.proofs.lemmas.Int.Digits.{digits_value_more}
use Rattle.std.proofs.Math.Nat.{mul-le-mul_left, mul-le-mul_right}

-- a cap before a digit changes nothing below the cap
capped_step : (v b d most : ℕ) → 1 ≤ b → min (min v most * b + d) most ≡ min (v * b + d) most
capped_step v b d most h =
    elim (cases_lt most v) [
      | inl above ↦
          let left : min v most ≡ most = omega arith in
          let whole : most * 1 ≤ most * b = mul-le-mul_left most h in
          let more : most * b ≤ v * b = mul-le-mul_right b (omega arith) in
          rw left (omega arith)
      | inr within ↦ let left : min v most ≡ v = omega arith in rw left refl
    ]

-- one digit more
pub capped_digit : (base most : ℕ) (digits : List ℕ) (i : ℕ) → 1 ≤ base → i < length digits →
    min (min (digits_value base (take i digits)) most * base + digit_value (get_or digits i 0)) most ≡ min (digits_value base (take (i + 1) digits)) most
capped_digit base most digits i h lt =
    capped_step (digits_value base (take i digits)) base (digit_value (get_or digits i 0)) most h
    ∙ ap (λ v. min v most) (sym (digits_value_more base digits i lt))
