-- Decimals beyond the range, and those that round to nothing.
use Rattle.std.proofs.Common.{◌≡◌, ℕ, suc, ◌+◌, ◌*◌, ◌^◌, ◌<◌, ◌≤◌, refl, ap, ◌∙◌, Bool, true, false, arith}
use Rattle.std.specs.Prelude.{ℤ, pos, negsuc, neg_ℤ, ◌+ℤ◌, Ok, Err}
use Rattle.std.proofs.lemmas.Int.{ints}
use Rattle.std.proofs.lemmas.Nat.{mul-le}
use Rattle.std.proofs.Math.Nat.{pow-le-pow_right}
use Rattle.ps_fixed.specs.Rounding.{nearest_quotient, real_of}
use Rattle.ps_fixed.specs.Decimals.{signed_by, decimal_up, decimal_down, decimal_of}
use Rattle.ps_fixed.proofs.Floors.{real_of_outside, floor_unique}

tens : (n k : ℕ) → k ≤ n → 10 ^ k ≤ 10 ^ n
tens n k h = pow-le-pow_right {n = 10} (omega arith) {i = k} {j = n} h

pub power_small : (n : ℕ) → n ≤ 38 → (10 ^ n < 2 ^ 127) × (0 < 10 ^ n) × (n ≤ 12 → 10 ^ n ≤ 10 ^ 12)
power_small n h =
    let most = tens 38 n h in
    let least = tens n 0 (omega arith) in
    (omega arith, omega arith, tens 12 n)

pub product_small : (m p : ℕ) → m < 10 ^ 18 → p ≤ 10 ^ 12 → m * 2 ^ 24 * p < 2 ^ 127
product_small m p h k =
    let most = mul-le (m * 2 ^ 24) p (10 ^ 18 * 2 ^ 24) (10 ^ 12) (omega arith) k in
    omega arith

large : (m n : ℕ) → 0 < m → 12 < n → 2 ^ 64 ≤ m * 2 ^ 24 * 10 ^ n
large m n p h =
    let power = tens n 13 (omega arith) in
    let least = mul-le (1 * 2 ^ 24) (10 ^ 13) (m * 2 ^ 24) (10 ^ n) (omega arith) power in
    omega arith

outside : (negative : Bool) (n : ℕ) → 2 ^ 64 ≤ n → real_of (signed_by negative n) ≡ Err (record {})
outside true n h = real_of_outside (neg_ℤ (pos n)) (omega (arith, ints))
outside false n h = real_of_outside (pos n) (omega (arith, ints))

pub too_great : (negative : Bool) (m n : ℕ) → 0 < m → 12 < n → decimal_up negative m n ≡ Err (record {})
unfolding decimal_up
too_great negative m n p h = outside negative (m * 2 ^ 24 * 10 ^ n) (large m n p h)

nearest_nothing : (negative : Bool) (n q : ℕ) → 2 * n < q → nearest_quotient (signed_by negative n) q ≡ pos 0
unfolding nearest_quotient
nearest_nothing true n q h = floor_unique (neg_ℤ (pos n) +ℤ neg_ℤ (pos n) +ℤ pos q) (q + q) (pos 0) (omega (arith, ints)) (omega (arith, ints))
nearest_nothing false n q h = floor_unique (pos n +ℤ pos n +ℤ pos q) (q + q) (pos 0) (omega (arith, ints)) (omega (arith, ints))

zero_fits : real_of (pos 0) ≡ Ok (record { count = pos 0 })
unfolding real_of
zero_fits = refl

pub too_small : (negative : Bool) (m n : ℕ) → m < 10 ^ 18 → 38 < n → decimal_down negative m n ≡ Ok (record { count = pos 0 })
unfolding decimal_down
too_small negative m n p h =
    let power = tens n 39 (omega arith) in
    ap real_of (nearest_nothing negative (m * 2 ^ 24) (10 ^ n) (omega arith)) ∙ zero_fits

signed_nothing : (negative : Bool) (n : ℕ) → n ≡ 0 → signed_by negative n ≡ pos 0
signed_nothing true n h = ap (λ (k : ℕ). neg_ℤ (pos k)) h
signed_nothing false n h = ap pos h

pub nothing : (negative : Bool) (m : ℕ) (e : ℤ) → m ≡ 0 → decimal_of negative m e ≡ Ok (record { count = pos 0 })
unfolding decimal_up decimal_down
nothing negative m (pos n) h =
    let none : m * 2 ^ 24 * 10 ^ n ≡ 0 = ap (λ (k : ℕ). k * 2 ^ 24 * 10 ^ n) h ∙ omega arith in
    ap real_of (signed_nothing negative (m * 2 ^ 24 * 10 ^ n) none) ∙ zero_fits
nothing negative m (negsuc n) h =
    let power = tens (suc n) 0 (omega arith) in
    ap real_of (nearest_nothing negative (m * 2 ^ 24) (10 ^ suc n) (omega arith)) ∙ zero_fits
