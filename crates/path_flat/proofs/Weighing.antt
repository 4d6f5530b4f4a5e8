-- Weights of a curve's points, which are 32768 together.
use Rattle.std.proofs.Common.{◌≡◌, ℕ, ◌+◌, ◌-◌, ◌*◌, ◌^◌, ◌≤◌, suc, ap, ap₂, subst, sym, ◌∙◌, arith, SFits, to_z, of_z, to_z-of_z}
use Rattle.std.proofs.Math.Nat.{mul-le-mul_left}
use Rattle.std.specs.Int.{w64}
use Rattle.ps_fixed.specs.Rounding.{floor_of}
use Rattle.ps_fixed.proofs.Floors.{floor_low, floor_high}
use Rattle.std.specs.Prelude.{ℤ, pos, negsuc, neg_ℤ, ◌+ℤ◌, ◌*ℤ◌, ◌≤ℤ◌}
use Rattle.std.proofs.lemmas.Int.{ints}
use Rattle.ps_shapes.specs.Near.{IsOnDevice}
use Rattle.path_flat.specs.Curves.{coordinate}
use Rattle.path_flat.proofs.Rounded.{curve_floor}

pub weights_whole : (p l : ℕ) → l + p ≡ 32 → l * l * l + 3 * p * l * l + 3 * p * p * l + p * p * p ≡ 32768
weights_whole p l e = let cube : (l + p) * (l + p) * (l + p) ≡ 32768 = ap (λ (n : ℕ). n * n * n) e in omega (arith, cube)

pub weights_sum : (p : ℕ) → p ≤ 32 → (32 - p) * (32 - p) * (32 - p) + 3 * p * (32 - p) * (32 - p) + 3 * p * p * (32 - p) + p * p * p ≡ 32768
weights_sum p h = weights_whole p (32 - p) (omega arith)

pub square_small : (a b : ℕ) → a ≤ 32 → b ≤ 32 → a * b ≤ 1024
square_small a b h k = let s = mul-le-mul_left a k in omega (arith, s)

pub weighted_low : (w : ℕ) (z : ℤ) → IsOnDevice z → neg_ℤ (pos (w * 2 ^ 46)) ≤ℤ (pos w *ℤ z)
weighted_low w (pos n) h = omega (arith, ints)
weighted_low w (negsuc n) h = let m : suc n ≤ 2 ^ 46 = omega (arith, ints) in let s = mul-le-mul_left w m in omega (arith, ints)

pub weighted_high : (w : ℕ) (z : ℤ) → IsOnDevice z → (pos w *ℤ z) ≤ℤ pos (w * 2 ^ 46)
weighted_high w (pos n) h = let m : n ≤ 2 ^ 46 = omega (arith, ints) in let s = mul-le-mul_left w m in omega (arith, ints)
weighted_high w (negsuc n) h = omega (arith, ints)

-- within so many times 2^46 of 0
pub record IsWithin (weight : ℕ) (z : ℤ) : Type 0 where
  pub low : neg_ℤ (pos (weight * 2 ^ 46)) ≤ℤ z
  pub high : z ≤ℤ pos (weight * 2 ^ 46)

-- the sums of four weighted coordinates, as they are computed, and what is left of them
pub record Summed (a b c d : ℤ) : Type 0 where
  pub first : SFits w64 (a +ℤ b)
  pub second : SFits w64 (a +ℤ b +ℤ c)
  pub third : SFits w64 (a +ℤ b +ℤ c +ℤ d)
  pub rounded : SFits w64 (a +ℤ b +ℤ c +ℤ d +ℤ pos 16384)

pub summed : (i j k l : ℕ) (a b c d : ℤ) → i + j + k + l ≡ 32768 → IsWithin i a → IsWithin j b → IsWithin k c → IsWithin l d → Summed a b c d
summed i j k l a b c d e f g h m = record { first = omega (arith, ints); second = omega (arith, ints); third = omega (arith, ints); rounded = omega (arith, ints) }

pub sum_near : (i j k l : ℕ) (a b c d : ℤ) → i + j + k + l ≡ 32768 → IsWithin i a → IsWithin j b → IsWithin k c → IsWithin l d
    → IsOnDevice (floor_of (a +ℤ b +ℤ c +ℤ d +ℤ pos 16384) (2 ^ 15))
sum_near i j k l a b c d e f g h m =
    let z = a +ℤ b +ℤ c +ℤ d +ℤ pos 16384 in
    let low = floor_low z (2 ^ 15) (omega arith) in
    let high = floor_high z (2 ^ 15) (omega arith) in
    (omega (arith, ints), omega (arith, ints))

pub within_of : (w : ℕ) (z r : ℤ) → IsOnDevice z → r ≡ pos w *ℤ z → IsWithin w r
within_of w z r h e = record { low = subst (λ (y : ℤ). neg_ℤ (pos (w * 2 ^ 46)) ≤ℤ y) (sym e) (weighted_low w z h); high = subst (λ (y : ℤ). y ≤ℤ pos (w * 2 ^ 46)) (sym e) (weighted_high w z h) }

-- the four parts of a coordinate: the weights, the coordinates of the curve's points, and the products
pub record Parts (i j k l : ℕ) (p q r s a b c d : ℤ) : Type 0 where
  pub whole : i + j + k + l ≡ 32768
  pub near_p : IsOnDevice p
  pub near_q : IsOnDevice q
  pub near_r : IsOnDevice r
  pub near_s : IsOnDevice s
  pub is_a : a ≡ pos i *ℤ p
  pub is_b : b ≡ pos j *ℤ q
  pub is_c : c ≡ pos k *ℤ r
  pub is_d : d ≡ pos l *ℤ s

pub parts_summed : (i j k l : ℕ) (p q r s a b c d : ℤ) → Parts i j k l p q r s a b c d → Summed a b c d
parts_summed i j k l p q r s a b c d h =
    summed i j k l a b c d h.whole (within_of i p a h.near_p h.is_a) (within_of j q b h.near_q h.is_b) (within_of k r c h.near_r h.is_c) (within_of l s d h.near_s h.is_d)

pub parts_near : (i j k l : ℕ) (p q r s a b c d : ℤ) → Parts i j k l p q r s a b c d → IsOnDevice (floor_of (a +ℤ b +ℤ c +ℤ d +ℤ pos 16384) (2 ^ 15))
parts_near i j k l p q r s a b c d h =
    sum_near i j k l a b c d h.whole (within_of i p a h.near_p h.is_a) (within_of j q b h.near_q h.is_b) (within_of k r c h.near_r h.is_c) (within_of l s d h.near_s h.is_d)

-- a coordinate as it is computed
pub computed : (a b c d : ℤ) → SFits w64 a → SFits w64 b → SFits w64 c → SFits w64 d → Summed a b c d → IsOnDevice (floor_of (a +ℤ b +ℤ c +ℤ d +ℤ pos 16384) (2 ^ 15))
    → to_z w64 (of_z w64 (floor_of (to_z w64 (of_z w64 (to_z w64 (of_z w64 (to_z w64 (of_z w64 (to_z w64 (of_z w64 (to_z w64 (of_z w64 a) +ℤ to_z w64 (of_z w64 b))) +ℤ to_z w64 (of_z w64 c))) +ℤ to_z w64 (of_z w64 d))) +ℤ pos 16384))) (2 ^ 15)))
    ≡ floor_of (a +ℤ b +ℤ c +ℤ d +ℤ pos 16384) (2 ^ 15)
computed a b c d fa fb fc fd m near =
    let first : SFits w64 (a +ℤ b) = m.first in
    let second : SFits w64 (a +ℤ b +ℤ c) = m.second in
    let third : SFits w64 (a +ℤ b +ℤ c +ℤ d) = m.third in
    let rounded : SFits w64 (a +ℤ b +ℤ c +ℤ d +ℤ pos 16384) = m.rounded in
    let small : SFits w64 (floor_of (a +ℤ b +ℤ c +ℤ d +ℤ pos 16384) (2 ^ 15)) = omega (arith, ints) in
    simp to_z-of_z

pub parts_sum : (part i j k l : ℕ) (p q r s a b c d : ℤ) → Parts i j k l p q r s a b c d
    → i ≡ (32 - part) * (32 - part) * (32 - part) → j ≡ 3 * part * (32 - part) * (32 - part) → k ≡ 3 * part * part * (32 - part) → l ≡ part * part * part
    → floor_of (a +ℤ b +ℤ c +ℤ d +ℤ pos 16384) (2 ^ 15) ≡ coordinate part p q r s
parts_sum part i j k l p q r s a b c d h e f g m =
    let sa : a ≡ pos ((32 - part) * (32 - part) * (32 - part)) *ℤ p = h.is_a ∙ ap (λ (n : ℕ). pos n *ℤ p) e in
    let sb : b ≡ pos (3 * part * (32 - part) * (32 - part)) *ℤ q = h.is_b ∙ ap (λ (n : ℕ). pos n *ℤ q) f in
    let sc : c ≡ pos (3 * part * part * (32 - part)) *ℤ r = h.is_c ∙ ap (λ (n : ℕ). pos n *ℤ r) g in
    let sd : d ≡ pos (part * part * part) *ℤ s = h.is_d ∙ ap (λ (n : ℕ). pos n *ℤ s) m in
    ap (λ (z : ℤ). floor_of (z +ℤ pos 16384) (2 ^ 15)) (ap₂ ◌+ℤ◌ (ap₂ ◌+ℤ◌ (ap₂ ◌+ℤ◌ sa sb) sc) sd) ∙ sym (curve_floor part p q r s)
