-- What a search for either of two bytes answers.
use Rattle.std.proofs.Common.{◌≡◌, ◌≤◌, ℕ, List, Option, Some, None, length, refl, sym, arith}
use Rattle.std.specs.Prelude.{unwrap_or, false, true, Bool}
use Rattle.std.specs.List.{position_or_len}
use Rattle.std.proofs.lemmas.List.Sums.{position_or_len_is}
use Rattle.memchr.specs.Find.{IsFirstByte, is_byte2}

-- a test that doesn't pass fails
pub fails : (b : Bool) → ¬ (b ≡ true) → b ≡ false
fails true h = absurd (h refl)
fails false h = refl

pub first_place : (a b : ℕ) (text : List ℕ) (r : Option ℕ) → IsFirstByte (is_byte2 a b) text r → unwrap_or r (length text) ≡ position_or_len (is_byte2 a b) text
first_place a b text None h =
    sym (position_or_len_is (is_byte2 a b) text (length text) 0 (omega arith) (λ k lt. fails _ (h k (omega arith) lt)) (λ lt. absurd (omega arith)))
first_place a b text (Some k) h =
    let within : k ≤ length text = omega (arith, h.0.high) in
    sym (position_or_len_is (is_byte2 a b) text k 0 within (λ j lt. fails _ (h.0.before j (omega arith) lt)) (λ _. h.1))
