-- Floors of quotients, and the test of the range.
use Rattle.std.proofs.Common.{◌≡◌, ℕ, zero, suc, ◌+◌, ◌-◌, ◌*◌, ◌/◌, ◌^◌, ◌<◌, ◌≤◌, refl, ap, ap₂, sym, ◌∙◌, Bool, true, false, cond, arith, SFits, to_z, of_z, to_z-of_z, mod-lt, div-add-mod', mul-le-mul_left, mul-suc}
use Rattle.std.specs.Prelude.{ℤ, pos, negsuc, ◌+ℤ◌, ◌-ℤ◌, ◌*ℤ◌, neg_ℤ, ◌<ℤ◌, unsigned_abs, Ok, Err, FitsSigned}
use Rattle.std.specs.Int.Signed.{mag}
use Rattle.std.specs.Int.{w64, w128}
use Rattle.std.proofs.lemmas.Int.{ints, to_z_pos}
use Rattle.std.proofs.lemmas.Nat.{div_below}
use Rattle.std.proofs.Math.Nat.{div-eq_of_lt-le}
use borrow.Author.Differences.{up, down, neg_is}
use Rattle.ps_fixed.specs.Rounding.{floor_of, nearest_quotient, nearest_count, fits_i64, real_of}
use Rattle.ps_fixed.specs.Arithmetic.{nearest_real}

-- ---- the range

pub real_of_inside : (z : ℤ) → FitsSigned w64 z → real_of z ≡ Ok (record { count = z })
unfolding real_of
real_of_inside z h = by (fits_i64 z) refl
  where
    by : (t : Bool) → fits_i64 z ≡ t → real_of z ≡ Ok (record { count = z })
    by true e = ap (λ (b : Bool). cond b (Ok (record { count = z })) (Err (record {}))) e
    by false e = absurd (grind (arith, ints))

pub real_of_outside : (z : ℤ) → 2 ^ 63 ≤ mag z → real_of z ≡ Err (record {})
unfolding real_of
real_of_outside z h = by (fits_i64 z) refl
  where
    by : (t : Bool) → fits_i64 z ≡ t → real_of z ≡ Err (record {})
    by false e = ap (λ (b : Bool). cond b (Ok (record { count = z })) (Err (record {}))) e
    by true e = absurd (grind (arith, ints))

-- ---- floors: an integer z is read as `up z - down z`

-- r is the floor of z / n where n·r ≤ z < n·(r + 1)
pub floor_unique : (z : ℤ) (n : ℕ) (r : ℤ) → n * up r + down z ≤ up z + n * down r → up z + n * down r < n * up r + n + down z → floor_of z n ≡ r
floor_unique (pos a) n (pos b) h k = ap pos (div-eq_of_lt-le {k = b} n (omega arith) (omega arith))
floor_unique (pos a) n (negsuc b) h k = absurd (omega (arith, mul-suc n b))
floor_unique (negsuc a) n (pos b) h k = absurd (omega arith)
floor_unique (negsuc a) n (negsuc b) h k = ap negsuc (div-eq_of_lt-le {k = b} n (omega (arith, mul-suc n b)) (omega (arith, mul-suc n b)))

pub floor_low : (z : ℤ) (n : ℕ) → 0 < n → n * up (floor_of z n) + down z ≤ up z + n * down (floor_of z n)
floor_low (pos a) n p = omega (arith, div-add-mod' a n)
floor_low (negsuc a) n p = omega (arith, div-add-mod' a n, mul-suc n (a / n), mod-lt a p)

pub floor_high : (z : ℤ) (n : ℕ) → 0 < n → up z + n * down (floor_of z n) < n * up (floor_of z n) + n + down z
floor_high (pos a) n p = omega (arith, div-add-mod' a n, mod-lt a p)
floor_high (negsuc a) n p = omega (arith, div-add-mod' a n, mul-suc n (a / n))

pub nearest_count_is : (p : ℤ) → nearest_count p ≡ floor_of (p +ℤ pos (2 ^ 23)) (2 ^ 24)
unfolding nearest_count nearest_quotient
nearest_count_is p =
    let low = floor_low (p +ℤ p +ℤ pos (2 ^ 24)) (2 ^ 25) (omega arith) in
    let high = floor_high (p +ℤ p +ℤ pos (2 ^ 24)) (2 ^ 25) (omega arith) in
    sym (floor_unique (p +ℤ pos (2 ^ 23)) (2 ^ 24) (nearest_count p) (omega (arith, ints)) (omega (arith, ints)))

-- ---- sums of two products

-- the whole parts of p and q apart from their fractions
nearest_sum_is : (p q t : ℤ) → nearest_count (p +ℤ q +ℤ t *ℤ pos (2 ^ 24)) ≡ floor_of p (2 ^ 24) +ℤ floor_of q (2 ^ 24) +ℤ t +ℤ nearest_count ((p -ℤ floor_of p (2 ^ 24) *ℤ pos (2 ^ 24)) +ℤ (q -ℤ floor_of q (2 ^ 24) *ℤ pos (2 ^ 24)))
nearest_sum_is p q t =
    let fractions = (p -ℤ floor_of p (2 ^ 24) *ℤ pos (2 ^ 24)) +ℤ (q -ℤ floor_of q (2 ^ 24) *ℤ pos (2 ^ 24)) in
    let low = floor_low (fractions +ℤ pos (2 ^ 23)) (2 ^ 24) (omega arith) in
    let high = floor_high (fractions +ℤ pos (2 ^ 23)) (2 ^ 24) (omega arith) in
    let small = nearest_count_is fractions in
    nearest_count_is (p +ℤ q +ℤ t *ℤ pos (2 ^ 24)) ∙ floor_unique (p +ℤ q +ℤ t *ℤ pos (2 ^ 24) +ℤ pos (2 ^ 23)) (2 ^ 24)
    (floor_of p (2 ^ 24) +ℤ floor_of q (2 ^ 24) +ℤ t +ℤ nearest_count fractions) (omega (arith, ints)) (omega (arith, ints))

pub nearest_sum_from : (p q t u v m : ℤ) → u ≡ floor_of p (2 ^ 24) → v ≡ floor_of q (2 ^ 24) → m ≡ nearest_count ((p -ℤ floor_of p (2 ^ 24) *ℤ pos (2 ^ 24)) +ℤ (q -ℤ floor_of q (2 ^ 24) *ℤ pos (2 ^ 24)))
    → u +ℤ v +ℤ t +ℤ m ≡ nearest_count (p +ℤ q +ℤ t *ℤ pos (2 ^ 24))
nearest_sum_from p q t u v m eu ev em = let whole = nearest_sum_is p q t in omega (arith, ints)

-- a sum of four as it is computed
pub four_added : (u v t m r : ℤ) → SFits w128 (u +ℤ v) → SFits w128 (u +ℤ v +ℤ t) → SFits w128 (u +ℤ v +ℤ t +ℤ m) → SFits w128 u → SFits w128 v → SFits w64 t → SFits w128 t → SFits w128 m → u +ℤ v +ℤ t +ℤ m ≡ r
    → to_z w128 (of_z w128 (to_z w128 (of_z w128 (to_z w128 (of_z w128 (to_z w128 (of_z w128 u) +ℤ to_z w128 (of_z w128 v))) +ℤ to_z w128 (of_z w128 (to_z w64 (of_z w64 t))))) +ℤ to_z w128 (of_z w128 m))) ≡ r
four_added u v t m r a b d fu fv ft wide fm e = simp to_z-of_z e

pub plus_nothing : (p q u v : ℤ) → p ≡ u → q ≡ v → nearest_count (p +ℤ q +ℤ pos 0) ≡ nearest_count (u +ℤ v)
plus_nothing p q u v e f = ap nearest_count (omega (arith, ints))

-- ---- quotients by the sign of the dividend

nearest_pos : (a q : ℕ) → pos ((2 * a + q) / (2 * q)) ≡ nearest_quotient (pos a) q
unfolding nearest_quotient
nearest_pos a q = ap pos (ap₂ ◌/◌ (omega arith) (omega arith))

nearest_up : (a : ℕ) (p : ℤ) (q : ℕ) → a + down p ≡ up p → pos ((2 * a + q) / (2 * q)) ≡ nearest_quotient p q
nearest_up a p q e =
    let is : pos a ≡ p = omega (arith, ints) in
    nearest_pos a q ∙ ap (λ (z : ℤ). nearest_quotient z q) is

nearest_down : (a : ℕ) (p : ℤ) (q : ℕ) → 0 < q → a + up p ≡ down p → neg_ℤ (pos ((2 * a + (q - 1)) / (2 * q))) ≡ nearest_quotient p q
unfolding nearest_quotient
nearest_down a p q h e =
    let t = (2 * a + (q - 1)) / (2 * q) in
    let split = div-add-mod' (2 * a + (q - 1)) (2 * q) in
    let small = mod-lt (2 * a + (q - 1)) (let two : 0 < 2 * q = omega arith in two) in
    let r = neg_ℤ (pos t) in
    let rise : (q + q) * up r ≡ (q + q) * 0 = ap (λ (n : ℕ). (q + q) * n) (neg_is (pos t)).0 in
    let fall : (q + q) * down r ≡ (q + q) * t = ap (λ (n : ℕ). (q + q) * n) (neg_is (pos t)).1 in
    sym (floor_unique (p +ℤ p +ℤ pos q) (q + q) (neg_ℤ (pos t)) (omega (arith, ints)) (omega (arith, ints)))

-- such a quotient is no greater than the dividend
quotient_at_most : (a q half : ℕ) → 0 < q → half ≤ q → (2 * a + half) / (2 * q) ≤ a
quotient_at_most a q half h k =
    let more = mul-le-mul_left a (let two : 2 ≤ 2 * q = omega arith in two) in
    let small : (2 * a + half) / (2 * q) < a + 1 = div_below (2 * a + half) (2 * q) (a + 1) (omega arith) (omega arith) in
    omega arith

-- as they are computed
pub nearest_up_by : (a : ℕ) (p : ℤ) (q : ℕ) → 0 < q → a ≤ 2 ^ 112 → a + down p ≡ up p → to_z w128 ((2 * a + q) / (2 * q)) ≡ nearest_quotient p q
nearest_up_by a p q h k e =
    let small = quotient_at_most a q q h (omega arith) in
    to_z_pos w128 ((2 * a + q) / (2 * q)) (omega arith) ∙ nearest_up a p q e

pub nearest_down_by : (a : ℕ) (p : ℤ) (q : ℕ) → 0 < q → a ≤ 2 ^ 112 → a + up p ≡ down p → to_z w128 (of_z w128 (pos 0 -ℤ to_z w128 ((2 * a + (q - 1)) / (2 * q)))) ≡ nearest_quotient p q
nearest_down_by a p q h k e =
    let small = quotient_at_most a q (q - 1) h (omega arith) in
    let is : to_z w128 (of_z w128 (pos 0 -ℤ to_z w128 ((2 * a + (q - 1)) / (2 * q)))) ≡ neg_ℤ (pos ((2 * a + (q - 1)) / (2 * q))) = omega (arith, ints) in
    is ∙ nearest_down a p q h e

-- ---- quotients of reals

pub quotient_is : (q t d : ℕ) → q * d ≤ t → t - q * d < d → q ≡ t / d
quotient_is q t d h k = sym (div-eq_of_lt-le {k = q} d (omega arith) (omega arith))

pub quotient_bound : (a b half : ℕ) → 0 < b → half ≤ b → a ≤ 2 ^ 63 → (2 * (a * 2 ^ 24) + half) / (2 * b) < 2 ^ 90
quotient_bound a b half h k l = let small = quotient_at_most (a * 2 ^ 24) b half h k in omega arith

-- by the dividend's sign
pub scaled_up : (m : ℕ) (a : ℤ) (b s : ℕ) → s + down a ≡ up a → m ≡ (2 * (s * 2 ^ 24) + b) / (2 * b) → pos m ≡ nearest_quotient (a *ℤ pos (2 ^ 24)) b
scaled_up m a b s e k = ap pos k ∙ nearest_up (s * 2 ^ 24) (a *ℤ pos (2 ^ 24)) b (omega (arith, ints))

pub scaled_down : (m : ℕ) (a : ℤ) (b s : ℕ) → 0 < b → s + up a ≡ down a → m ≡ (2 * (s * 2 ^ 24) + (b - 1)) / (2 * b) → neg_ℤ (pos m) ≡ nearest_quotient (a *ℤ pos (2 ^ 24)) b
scaled_down m a b s h e k = ap (λ (n : ℕ). neg_ℤ (pos n)) k ∙ nearest_down (s * 2 ^ 24) (a *ℤ pos (2 ^ 24)) b h (omega (arith, ints))

-- by the divisor's sign
by_negative : (a b : ℤ) → b <ℤ pos 0 → real_of (nearest_quotient (neg_ℤ a *ℤ pos (2 ^ 24)) (unsigned_abs b)) ≡ nearest_real (a *ℤ pos (2 ^ 24)) b
by_negative a (pos n) h = absurd (omega (arith, ints))
by_negative a (negsuc n) h = ap (λ (z : ℤ). real_of (nearest_quotient z (suc n))) (omega (arith, ints))

by_positive : (a b : ℤ) → pos 0 <ℤ b → real_of (nearest_quotient (a *ℤ pos (2 ^ 24)) (unsigned_abs b)) ≡ nearest_real (a *ℤ pos (2 ^ 24)) b
by_positive a (pos zero) h = absurd (omega (arith, ints))
by_positive a (pos (suc n)) h = refl
by_positive a (negsuc n) h = absurd (omega (arith, ints))

pub quotient_by_negative : (a b r x : ℤ) (n : ℕ) → r ≡ nearest_quotient (x *ℤ pos (2 ^ 24)) n → b <ℤ pos 0 → x ≡ neg_ℤ a → n ≡ unsigned_abs b → real_of r ≡ nearest_real (a *ℤ pos (2 ^ 24)) b
quotient_by_negative a b r x n i h e f = ap real_of (i ∙ ap₂ (λ (z : ℤ) (m : ℕ). nearest_quotient (z *ℤ pos (2 ^ 24)) m) e f) ∙ by_negative a b h

pub quotient_by_positive : (a b r x : ℤ) (n : ℕ) → r ≡ nearest_quotient (x *ℤ pos (2 ^ 24)) n → pos 0 <ℤ b → x ≡ a → n ≡ unsigned_abs b → real_of r ≡ nearest_real (a *ℤ pos (2 ^ 24)) b
quotient_by_positive a b r x n i h e f = ap real_of (i ∙ ap₂ (λ (z : ℤ) (m : ℕ). nearest_quotient (z *ℤ pos (2 ^ 24)) m) e f) ∙ by_positive a b h
