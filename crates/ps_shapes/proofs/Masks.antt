-- A byte with a run of its bits set or cleared.
use Rattle.std.proofs.Common.{◌≡◌, ℕ, ◌+◌, ◌-◌, ◌*◌, ◌^◌, ◌%◌, ◌<◌, ◌≤◌, ◌&&◌, ◌⊎◌, inl, inr, Bool, true, false, cond, max, min, nat_eq, nat_le, nat_lt, bit_and, bit_or, refl, ap, sym, ◌∙◌, arith}
use Rattle.std.specs.Int.{bit_at, bit_not, w8}
use Rattle.std.proofs.lemmas.Bool.{cases_lt}
use Rattle.std.proofs.lemmas.Nat.{one_shl}
use Rattle.std.proofs.Math.Nat.{pow-le-pow_right}
use Rattle.std.proofs.lemmas.Nat.Bits.{bit_at_mask_inside, bit_at_mask_below, bit_at_mask_above, bit_at_or, bit_at_and, bit_at_not, bit_at-lt}
use Rattle.ps_shapes.proofs.Ranges.{in_range, below_range, above_range}

-- the bits from first up to past, counted from the highest of a byte
abbrev pub mask_of : ℕ → ℕ → ℕ
mask_of first past = 2 ^ (8 - first) - 2 ^ (8 - past)

pub mask_order : (first past : ℕ) → first ≤ past → 2 ^ (8 - past) ≤ 2 ^ (8 - first)
mask_order first past h = pow-le-pow_right {n = 2} (omega arith) {i = 8 - past} {j = 8 - first} (omega arith)

pub mask_small : (first past : ℕ) → mask_of first past < 256
mask_small first past =
    let top : 2 ^ (8 - first) ≤ 2 ^ 8 = pow-le-pow_right {n = 2} (omega arith) {i = 8 - first} {j = 8} (omega arith) in
    let low : 2 ^ 0 ≤ 2 ^ (8 - past) = pow-le-pow_right {n = 2} (omega arith) {i = 0} {j = 8 - past} (omega arith) in
    omega arith

pub shifted : (k : ℕ) → k ≤ 8 → (1 * 2 ^ k) % 65536 ≡ 2 ^ k
shifted k h = one_shl k 16 (omega arith)

-- what a bit becomes: 1 inside the mask under ink, 0 inside it without, else as it was
abbrev Becomes : ℕ → ℕ → Bool → ℕ → ℕ → ℕ → Type 0
Becomes first past ink byte new k = nat_eq (bit_at new (7 - k)) 1 ≡ cond (nat_le first k && nat_lt k past) ink (nat_eq (bit_at byte (7 - k)) 1)

or_one : (a m : ℕ) → m ≡ 1 → a < 2 → nat_eq (max a m) 1 ≡ true
or_one a m h p = ap (λ v. nat_eq v 1) (let e : max a m ≡ 1 = omega arith in e)

or_zero : (a m : ℕ) → m ≡ 0 → nat_eq (max a m) 1 ≡ nat_eq a 1
or_zero a m h = ap (λ v. nat_eq v 1) (let e : max a m ≡ a = omega arith in e)

and_zero : (a m : ℕ) → m ≡ 1 → nat_eq (min a (1 - m)) 1 ≡ false
and_zero a m h = ap (λ v. nat_eq v 1) (let e : min a (1 - m) ≡ 0 = omega arith in e)

and_one : (a m : ℕ) → m ≡ 0 → a < 2 → nat_eq (min a (1 - m)) 1 ≡ nat_eq a 1
and_one a m h p = ap (λ v. nat_eq v 1) (let e : min a (1 - m) ≡ a = omega arith in e)

pub set_bit : (byte first past k : ℕ) → past ≤ 8 → k < 8 → Becomes first past true byte (bit_or byte (mask_of first past)) k
set_bit byte first past k fits below =
    let m = mask_of first past in
    let b = bit_at byte (7 - k) in
    rw bit_at_or (elim (cases_lt k first) [
      | inl h ↦ rw (below_range first past k h) (or_zero b (bit_at m (7 - k)) (bit_at_mask_above (8 - past) (8 - first) (7 - k) (omega arith)))
      | inr h ↦ elim (cases_lt k past) [
        | inl i ↦ rw (in_range first past k h i) (or_one b (bit_at m (7 - k)) (bit_at_mask_inside (8 - past) (8 - first) (7 - k) (omega arith) (omega arith)) (bit_at-lt byte (7 - k)))
        | inr i ↦ rw (above_range first past k i) (or_zero b (bit_at m (7 - k)) (bit_at_mask_below (8 - past) (8 - first) (7 - k) (omega arith)))
      ]
    ])

pub clear_bit : (byte first past k : ℕ) → past ≤ 8 → k < 8 → Becomes first past false byte (bit_and byte (255 - mask_of first past)) k
clear_bit byte first past k fits below =
    let m = mask_of first past in
    let b = bit_at byte (7 - k) in
    let flip : bit_at (255 - m) (7 - k) ≡ 1 - bit_at m (7 - k) = bit_at_not w8 m (7 - k) (mask_small first past) (omega arith) in
    rw (bit_at_and, flip) (elim (cases_lt k first) [
      | inl h ↦ rw (below_range first past k h) (and_one b (bit_at m (7 - k)) (bit_at_mask_above (8 - past) (8 - first) (7 - k) (omega arith)) (bit_at-lt byte (7 - k)))
      | inr h ↦ elim (cases_lt k past) [
        | inl i ↦ rw (in_range first past k h i) (and_zero b (bit_at m (7 - k)) (bit_at_mask_inside (8 - past) (8 - first) (7 - k) (omega arith) (omega arith)))
        | inr i ↦ rw (above_range first past k i) (and_one b (bit_at m (7 - k)) (bit_at_mask_below (8 - past) (8 - first) (7 - k) (omega arith)) (bit_at-lt byte (7 - k)))
      ]
    ])
