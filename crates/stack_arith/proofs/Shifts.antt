-- Shifts by 32 places and more leave nothing.
use Rattle.std.proofs.Common.{◌≡◌, ℕ, ◌+◌, ◌-◌, ◌*◌, ◌%◌, ◌^◌, ◌<◌, ◌≤◌, sym, ap, ◌∙◌, arith}
use Rattle.std.proofs.lemmas.Nat.{pow-add}
use Rattle.std.proofs.Math.Nat.{mul-mod_left, mul_assoc, div-eq_of_lt}
use Rattle.std.proofs.Math.Pow.{pow_mono}
use Rattle.stack_arith.specs.Bits.{left_by, right_by}

-- 2^32 is a factor
factored : (bits k : ℕ) → 32 ≤ k → bits * 2 ^ k ≡ bits * 2 ^ (k - 32) * 2 ^ 32
factored bits k h =
    let e : k ≡ k - 32 + 32 = omega arith in
    ap (λ n. bits * 2 ^ n) e ∙ ap (λ n. bits * n) (pow-add 2 (k - 32) 32) ∙ sym (mul_assoc bits (2 ^ (k - 32)) (2 ^ 32))

pub all_left : (bits k : ℕ) → 32 ≤ k → left_by bits k ≡ 0
all_left bits k h = ap (λ n. n % 2 ^ 32) (factored bits k h) ∙ mul-mod_left (bits * 2 ^ (k - 32)) (2 ^ 32)

pub all_right : (bits k : ℕ) → bits < 2 ^ 32 → 32 ≤ k → right_by bits k ≡ 0
all_right bits k b h =
    let l : 2 ^ 32 ≤ 2 ^ k = pow_mono h in
    let m : bits < 2 ^ k = omega arith in
    div-eq_of_lt m
