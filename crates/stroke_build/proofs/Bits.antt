-- The root bit by bit, and half a width.
use Rattle.std.proofs.Common.{◌≡◌, ℕ, suc, ◌+◌, ◌-◌, ◌*◌, ◌/◌, ◌%◌, ◌^◌, ◌<◌, refl, ap, ap₂, sym, ◌∙◌, Bool, true, false, cond, nat_le, pow-suc, arith}
use Rattle.std.specs.Prelude.{pos, ◌*ℤ◌, unsigned_abs}
use Rattle.std.proofs.Math.Nat.{pow-le-pow_right}
use Rattle.ps_fixed.specs.Roots.{root_from}
use Rattle.ps_fixed.specs.Rounding.{nearest_quotient}

root_choice : (t : Bool) (k n r b : ℕ) → cond t (root_from k n (r + b)) (root_from k n r) ≡ root_from k n (cond t (r + b) r)
root_choice true k n r b = refl
root_choice false k n r b = refl

bit_taken : (k n r : ℕ) → root_from (suc k) n r ≡ root_from k n (cond (nat_le ((r + 2 ^ k) * (r + 2 ^ k)) n) (r + 2 ^ k) r)
unfolding root_from
bit_taken k n r = root_choice (nat_le ((r + 2 ^ k) * (r + 2 ^ k)) n) k n r (2 ^ k)

pub root_step : (left n r b new whole : ℕ) → left < 64 → b ≡ 2 ^ (63 - left) → new ≡ cond (nat_le ((r + b) * (r + b)) n) (r + b) r → root_from (64 - left) n r ≡ whole → root_from (64 - (left + 1)) n new ≡ whole
root_step left n r b new whole h e is was =
    ap₂ (λ (k m : ℕ). root_from k n m) (let same : 64 - (left + 1) ≡ 63 - left = omega arith in same) (is ∙ ap (λ (x : ℕ). cond (nat_le ((r + x) * (r + x)) n) (r + x) r) e)
    ∙ sym (bit_taken (63 - left) n r)
    ∙ ap (λ (k : ℕ). root_from k n r) (let same : suc (63 - left) ≡ 64 - left = omega arith in same)
    ∙ was

pub doubled_at : (left : ℕ) → left < 64 → 2 ^ (64 - left) ≡ 2 ^ (63 - left) + 2 ^ (63 - left)
doubled_at left h = ap (λ (k : ℕ). 2 ^ k) (let same : 64 - left ≡ suc (63 - left) = omega arith in same) ∙ pow-suc 2 (63 - left) ∙ omega arith

pub next_power : (left b : ℕ) → left < 64 → b ≡ 2 ^ (63 - left) → 2 ^ (64 - (left + 1)) ≡ b
next_power left b h e = ap (λ (k : ℕ). 2 ^ k) (let same : 64 - (left + 1) ≡ 63 - left = omega arith in same) ∙ sym e

pub root_here : (n r : ℕ) → root_from 0 n r ≡ r
unfolding root_from
root_here n r = refl

nearest_pos : (p : ℕ) → nearest_quotient (pos p) (2 ^ 41) ≡ pos ((2 * p + 2 ^ 41) / 2 ^ 42)
unfolding nearest_quotient
nearest_pos p = ap (λ (n : ℕ). pos (n / 2 ^ 42)) (let e : p + p + 2 ^ 41 ≡ 2 * p + 2 ^ 41 = omega arith in e)

pub half_width : (a b : ℕ) → (a * b + 2 ^ 40) / 2 ^ 41 ≡ unsigned_abs (nearest_quotient (pos a *ℤ pos b) (2 ^ 41))
half_width a b = (let e : (a * b + 2 ^ 40) / 2 ^ 41 ≡ (2 * (a * b) + 2 ^ 41) / 2 ^ 42 = omega arith in e) ∙ sym (ap unsigned_abs (nearest_pos (a * b)))

pub double_bit : (left : ℕ) → left < 64 → 2 ^ (64 - left) ≡ (1 * 2 ^ (63 - left) % 2 ^ 64) + (1 * 2 ^ (63 - left) % 2 ^ 64)
double_bit left h =
    let small = pow-le-pow_right {n = 2} (omega arith) {i = 63 - left} {j = 63} (omega arith) in
    let twice = doubled_at left h in
    omega arith
