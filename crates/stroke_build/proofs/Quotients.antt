-- Roots and rounded quotients.
use Rattle.std.proofs.Common.{◌≡◌, ◌&&◌, ℕ, zero, suc, ◌+◌, ◌-◌, ◌*◌, ◌/◌, ◌^◌, ◌<◌, ◌≤◌, refl, ap, ap₂, subst, sym, ◌∙◌, Bool, true, false, cond, nat_le, nat_lt, arith, le_antisymm, mod-lt, div-add-mod', mul-le-mul_left, pow-suc}
use Rattle.std.specs.Prelude.{ℤ, pos, negsuc, ◌+ℤ◌, ◌-ℤ◌, ◌*ℤ◌, neg_ℤ, unsigned_abs}
use Rattle.std.proofs.lemmas.Int.{ints}
use Rattle.std.proofs.lemmas.Bool.Decides.{nat_tests, Decides-int_eq}
use Rattle.std.proofs.lemmas.Nat.{mul-le, div_below}
use borrow.Author.Differences.{up, down, neg_is}
use Rattle.std.specs.Ordering.{int_eq}
use Rattle.ps_fixed.specs.Roots.{IsRoot, root_from}
use Rattle.ps_fixed.specs.Rounding.{nearest_quotient}
use Rattle.ps_fixed.proofs.Floors.{floor_unique}
use Rattle.stroke_build.specs.Sides.{length_of, share}

doubled : (k : ℕ) → 2 ^ suc k ≡ 2 ^ k + 2 ^ k
doubled k = pow-suc 2 k ∙ omega arith

-- the root by bits is the root
root_found : (k n r : ℕ) → r * r ≤ n → n < (r + 2 ^ k) * (r + 2 ^ k) → IsRoot (root_from k n r) n
unfolding root_from
root_found zero n r low high = record { low = low; high = high }
root_found (suc k) n r low high =
    by (root_found k n (r + 2 ^ k)) (root_found k n r low) (nat_le ((r + 2 ^ k) * (r + 2 ^ k)) n) refl
  where
    by : ((r + 2 ^ k) * (r + 2 ^ k) ≤ n → n < (r + 2 ^ k + 2 ^ k) * (r + 2 ^ k + 2 ^ k) → IsRoot (root_from k n (r + 2 ^ k)) n)
        → (n < (r + 2 ^ k) * (r + 2 ^ k) → IsRoot (root_from k n r) n)
        → (t : Bool) → nat_le ((r + 2 ^ k) * (r + 2 ^ k)) n ≡ t → IsRoot (cond t (root_from k n (r + 2 ^ k)) (root_from k n r)) n
    by upper lower true e = upper (grind (arith, nat_tests)) (let wide : r + 2 ^ suc k ≡ r + 2 ^ k + 2 ^ k = omega (arith, doubled k) in let same = ap (λ (x : ℕ). x * x) wide in omega arith)
    by upper lower false e = lower (grind (arith, nat_tests))

no_greater : (a b n : ℕ) → a * a ≤ n → n < (b + 1) * (b + 1) → a ≤ b
no_greater a b n h k = by (nat_lt b a) refl
  where
    by : (t : Bool) → nat_lt b a ≡ t → a ≤ b
    by true e =
        let above : b + 1 ≤ a = grind (arith, nat_tests) in
        absurd (omega (arith, mul-le (b + 1) (b + 1) a a above above))
    by false e = grind (arith, nat_tests)

only_root : (a b n : ℕ) → IsRoot a n → IsRoot b n → a ≡ b
only_root a b n f g = le_antisymm (no_greater a b n f.low g.high) (no_greater b a n g.low f.high)

pub root_is : (r n : ℕ) → n < 2 ^ 64 → IsRoot r n → r ≡ root_from 32 n 0
root_is r n h is = only_root r (root_from 32 n 0) n is (root_found 32 n 0 (omega arith) (omega arith))

pub length_is : (r : ℕ) (dx dy : ℤ) → unsigned_abs dx * unsigned_abs dx + unsigned_abs dy * unsigned_abs dy < 2 ^ 64 → IsRoot r (unsigned_abs dx * unsigned_abs dx + unsigned_abs dy * unsigned_abs dy) → r ≡ length_of dx dy
unfolding length_of
length_is r dx dy h is = root_is r (unsigned_abs dx * unsigned_abs dx + unsigned_abs dy * unsigned_abs dy) h is

pub across_below : (r a b : ℕ) → IsRoot r (a * a + b * b) → a ≤ r
across_below r a b is = no_greater a r (a * a + b * b) (omega arith) is.high

pub down_below : (r a b : ℕ) → IsRoot r (a * a + b * b) → b ≤ r
down_below r a b is = no_greater b r (a * a + b * b) (omega arith) is.high

-- ---- quotients

pub quotient_at_most : (a q half : ℕ) → 0 < q → half ≤ q → (2 * a + half) / (2 * q) ≤ a
quotient_at_most a q half h k =
    let more = mul-le-mul_left a (let two : 2 ≤ 2 * q = omega arith in two) in
    let small : (2 * a + half) / (2 * q) < a + 1 = div_below (2 * a + half) (2 * q) (a + 1) (omega arith) (omega arith) in
    omega arith

pub part_at_most : (p half q r : ℕ) → 0 < q → half ≤ q → p ≤ q * r → (2 * p + half) / (2 * q) ≤ r
part_at_most p half q r h k l =
    let small : (2 * p + half) / (2 * q) < r + 1 = div_below (2 * p + half) (2 * q) (r + 1) (omega arith) (omega arith) in
    omega arith

nearest_pos : (a q : ℕ) → pos ((2 * a + q) / (2 * q)) ≡ nearest_quotient (pos a) q
unfolding nearest_quotient
nearest_pos a q = ap pos (ap₂ ◌/◌ (omega arith) (omega arith))

pub nearest_up : (m a : ℕ) (p : ℤ) (q : ℕ) → m ≡ (2 * a + q) / (2 * q) → a + down p ≡ up p → pos m ≡ nearest_quotient p q
nearest_up m a p q is e =
    let same : pos a ≡ p = omega (arith, ints) in
    ap pos is ∙ nearest_pos a q ∙ ap (λ (z : ℤ). nearest_quotient z q) same

pub nearest_down : (m a : ℕ) (p : ℤ) (q : ℕ) → 0 < q → m ≡ (2 * a + (q - 1)) / (2 * q) → a + up p ≡ down p → neg_ℤ (pos m) ≡ nearest_quotient p q
unfolding nearest_quotient
nearest_down m a p q h is e =
    let t = (2 * a + (q - 1)) / (2 * q) in
    let split = div-add-mod' (2 * a + (q - 1)) (2 * q) in
    let small = mod-lt (2 * a + (q - 1)) (let two : 0 < 2 * q = omega arith in two) in
    let r = neg_ℤ (pos t) in
    let rise : (q + q) * up r ≡ (q + q) * 0 = ap (λ (n : ℕ). (q + q) * n) (neg_is (pos t)).0 in
    let fall : (q + q) * down r ≡ (q + q) * t = ap (λ (n : ℕ). (q + q) * n) (neg_is (pos t)).1 in
    ap (λ (n : ℕ). neg_ℤ (pos n)) is ∙ sym (floor_unique (p +ℤ p +ℤ pos q) (q + q) (neg_ℤ (pos t)) (omega (arith, ints)) (omega (arith, ints)))

-- ---- lengths

pub some_length : (r : ℕ) (dx dy ax ay bx by : ℤ) → (int_eq ax bx && int_eq ay by) ≡ false → dx ≡ bx -ℤ ax → dy ≡ by -ℤ ay → unsigned_abs dx ≤ r → unsigned_abs dy ≤ r → 0 < r
some_length zero dx dy ax ay bx by e f g h k =
    let x : ax ≡ bx = omega (arith, ints) in
    let y : ay ≡ by = omega (arith, ints) in
    let both : (int_eq ax bx && int_eq ay by) ≡ true = ap₂ ◌&&◌ ((Decides-int_eq ax bx).1 x) ((Decides-int_eq ay by).1 y) in
    absurd (cc)
some_length (suc r) dx dy ax ay bx by e f g h k = omega arith

pub length_by : (r n : ℕ) (dx dy : ℤ) → n < 2 ^ 64 → n ≡ unsigned_abs dx * unsigned_abs dx + unsigned_abs dy * unsigned_abs dy → IsRoot r n → r ≡ length_of dx dy
unfolding length_of
length_by r n dx dy h e is = root_is r n h is ∙ ap (λ (m : ℕ). root_from 32 m 0) e

pub across_by : (r n a b : ℕ) → n ≡ a * a + b * b → IsRoot r n → a ≤ r
across_by r n a b e is = no_greater a r n (omega arith) is.high

pub down_by_root : (r n a b : ℕ) → n ≡ a * a + b * b → IsRoot r n → b ≤ r
down_by_root r n a b e is = no_greater b r n (omega arith) is.high

up_product : (s : ℕ) (d : ℤ) (r : ℕ) → pos s ≡ d → s * r + down (d *ℤ pos r) ≡ up (d *ℤ pos r)
up_product s d r e = subst (λ (z : ℤ). s * r + down (z *ℤ pos r) ≡ up (z *ℤ pos r)) e (omega (arith, ints))

down_by : (n r : ℕ) → suc n * r + up (negsuc n *ℤ pos r) ≡ down (negsuc n *ℤ pos r)
down_by n r = omega (arith, ints)

down_product : (s : ℕ) (d : ℤ) (r : ℕ) → neg_ℤ (pos s) ≡ d → s * r + up (d *ℤ pos r) ≡ down (d *ℤ pos r)
down_product zero d r e = subst (λ (z : ℤ). 0 * r + up (z *ℤ pos r) ≡ down (z *ℤ pos r)) e (omega (arith, ints))
down_product (suc n) d r e = subst (λ (z : ℤ). suc n * r + up (z *ℤ pos r) ≡ down (z *ℤ pos r)) e (down_by n r)

-- d·r / l by the sign of d, whose magnitude is s
pub share_up : (m : ℕ) (d : ℤ) (r l s : ℕ) → s + down d ≡ up d → m ≡ (2 * (s * r) + l) / (2 * l) → pos m ≡ share d r l
share_up m d r l s e is = nearest_up m (s * r) (d *ℤ pos r) l is (let same : pos s ≡ d = omega (arith, ints) in up_product s d r same)

pub share_down : (m : ℕ) (d : ℤ) (r l s : ℕ) → 0 < l → s + up d ≡ down d → m ≡ (2 * (s * r) + (l - 1)) / (2 * l) → neg_ℤ (pos m) ≡ share d r l
share_down m d r l s h e is = nearest_down m (s * r) (d *ℤ pos r) l h is (let same : neg_ℤ (pos s) ≡ d = omega (arith, ints) in down_product s d r same)
