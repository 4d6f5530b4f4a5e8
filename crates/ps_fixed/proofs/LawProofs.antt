-- The proofs of the laws.
use Rattle.std.proofs.Common.{◌≡◌, ℕ, zero, suc, ◌+◌, ◌-◌, ◌*◌, ◌/◌, ◌%◌, ◌^◌, ◌<◌, ◌≤◌, refl, ap, ap₂, subst, sym, ◌∙◌, inl, inr, Bool, true, false, if◌then◌else◌, nat_eq, arith}
use Rattle.std.specs.Prelude.{ℤ, pos, negsuc, ◌+ℤ◌, ◌-ℤ◌, ◌*ℤ◌, neg_ℤ, unsigned_abs, Result, Ok, Err}
use Rattle.std.proofs.lemmas.Int.{ints}
use Rattle.std.proofs.lemmas.Bool.Decides.{nat_tests}
use Rattle.std.proofs.Math.IntN.{neg_ℤ-neg_ℤ}
use Rattle.ps_shapes.specs.declared.numbers.Real.{Real}
use Rattle.ps_fixed.specs.declared.rounding.Undefined.{Undefined}
use Rattle.ps_fixed.specs.Rounding.{nearest_quotient, nearest_count, fits_i64, real_of}
use Rattle.ps_fixed.specs.Arithmetic.{nearest_real}
use Rattle.ps_fixed.specs.Sines.{quarter_turn, half_turn, three_quarter_turn, full_turn, reduced_angle, sine_series, axis_sine, quarter_sine, sine_at}
use Rattle.ps_fixed.specs.ArcTangents.{bisection, acute_angle, angle_at}
use Rattle.ps_fixed.specs.Laws.{IsNearest, IsWithinHalf, NearestLaw, ProductLaw, QuotientLaw, HalfTurnLaw, OddLaw, IsInQuadrant, QuadrantLaw}
use Rattle.ps_fixed.proofs.Floors.{floor_low, floor_high, floor_unique}
use Rattle.ps_fixed.proofs.Series.{reduced_here, reduced_later, reduced_below}
use Rattle.ps_fixed.proofs.Halving.{below_high}

-- ---- rounding

is_nearest : (p : ℤ) (q : ℕ) → 0 < q → IsNearest (nearest_quotient p q) p q
unfolding nearest_quotient
is_nearest p q h =
    let r = nearest_quotient p q in
    let low = floor_low (p +ℤ p +ℤ pos q) (q + q) (omega arith) in
    let high = floor_high (p +ℤ p +ℤ pos q) (q + q) (omega arith) in
    record { low = omega (arith, ints); high = omega (arith, ints) }

only : (p : ℤ) (q : ℕ) (r : ℤ) → IsNearest r p q → r ≡ nearest_quotient p q
unfolding nearest_quotient
only p q r n =
    let low = n.low in
    let high = n.high in
    sym (floor_unique (p +ℤ p +ℤ pos q) (q + q) r (omega (arith, ints)) (omega (arith, ints)))

pub nearest_law : NearestLaw
nearest_law p q h = (is_nearest p q h, only p q)

within : (p : ℤ) (q : ℕ) → 0 < q → 2 * unsigned_abs (nearest_quotient p q *ℤ pos q -ℤ p) ≤ q
within p q h =
    let n = is_nearest p q h in
    let low = n.low in
    let high = n.high in
    omega (arith, ints)

turned : (r p : ℤ) (n : ℕ) → 2 * unsigned_abs (r *ℤ pos (suc n) -ℤ neg_ℤ p) ≤ suc n → 2 * unsigned_abs (r *ℤ negsuc n -ℤ p) ≤ suc n
turned r p n h = omega (arith, ints)

-- a real that is there has the count that was asked for
abbrev choice : Bool → Real → Result Real Undefined
choice t x = if t then Ok x else Err (record {})

chosen : (t : Bool) (x r : Real) → choice t x ≡ Ok r → x ≡ r
chosen true x r e = cc
chosen false x r e = absurd (cc)

counted : (z : ℤ) (r : Real) → real_of z ≡ Ok r → z ≡ r.count
unfolding real_of
counted z r e = ap (λ (x : Real). x.count) (chosen (fits_i64 z) (record { count = z }) r e)

pub product_law : ProductLaw
unfolding nearest_count
product_law a b r e =
    let near = within (a.count *ℤ b.count) (2 ^ 24) (omega arith) in
    let is = counted (nearest_count (a.count *ℤ b.count)) r e in
    omega (arith, ints)

pub quotient_law : QuotientLaw
quotient_law a b r e = by b.count e
  where
    by : (d : ℤ) → nearest_real (a.count *ℤ pos (2 ^ 24)) d ≡ Ok r → IsWithinHalf r.count (a.count *ℤ pos (2 ^ 24)) d
    by (pos zero) f = absurd (cc)
    by (pos (suc n)) f =
        let near = within (a.count *ℤ pos (2 ^ 24)) (suc n) (omega arith) in
        let is = counted (nearest_quotient (a.count *ℤ pos (2 ^ 24)) (suc n)) r f in
        subst (λ (z : ℤ). 2 * unsigned_abs (z *ℤ pos (suc n) -ℤ a.count *ℤ pos (2 ^ 24)) ≤ suc n) is near
    by (negsuc n) f =
        let near = within (neg_ℤ (a.count *ℤ pos (2 ^ 24))) (suc n) (omega arith) in
        let is = counted (nearest_quotient (neg_ℤ (a.count *ℤ pos (2 ^ 24))) (suc n)) r f in
        turned r.count (a.count *ℤ pos (2 ^ 24)) n (subst (λ (z : ℤ). 2 * unsigned_abs (z *ℤ pos (suc n) -ℤ neg_ℤ (a.count *ℤ pos (2 ^ 24))) ≤ suc n) is near)

-- ---- sines

opposite : (t : Bool) (a b c d : ℤ) → a ≡ neg_ℤ c → b ≡ neg_ℤ d → (if t then a else b) ≡ neg_ℤ (if t then c else d)
opposite true a b c d e f = e
opposite false a b c d e f = f

half_axis : (q : ℕ) → q < 4 → axis_sine ((q + 2) % 4) ≡ neg_ℤ (axis_sine q)
half_axis zero h = refl
half_axis (suc zero) h = refl
half_axis (suc (suc zero)) h = refl
half_axis (suc (suc (suc zero))) h = refl
half_axis (suc (suc (suc (suc q)))) h = absurd (omega arith)

half_quarter : (q s : ℕ) → q < 4 → quarter_sine ((q + 2) % 4) s ≡ neg_ℤ (quarter_sine q s)
half_quarter zero s h = refl
half_quarter (suc zero) s h = refl
half_quarter (suc (suc zero)) s h = sym (neg_ℤ-neg_ℤ (sine_series s))
half_quarter (suc (suc (suc zero))) s h = sym (neg_ℤ-neg_ℤ (sine_series (quarter_turn - s)))
half_quarter (suc (suc (suc (suc q)))) s h = absurd (omega arith)

half_parts : (r : ℕ) → r < full_turn → ((r + half_turn) % full_turn / quarter_turn ≡ (r / quarter_turn + 2) % 4) × ((r + half_turn) % full_turn % quarter_turn ≡ r % quarter_turn)
half_parts r h = (omega arith, omega arith)

sine_by : (q s p t : ℕ) → q ≡ p → s ≡ t → (if nat_eq s 0 then axis_sine q else quarter_sine q s) ≡ (if nat_eq t 0 then axis_sine p else quarter_sine p t)
sine_by q s p t e f = ap₂ (λ (x y : ℕ). if nat_eq y 0 then axis_sine x else quarter_sine x y) e f

half_at : (r : ℕ) → r < full_turn → sine_at ((r + half_turn) % full_turn) ≡ neg_ℤ (sine_at r)
unfolding sine_at
half_at r h =
    let parts = half_parts r h in
    let below : r / quarter_turn < 4 = omega arith in
    sine_by _ _ _ _ parts.0 parts.1 ∙ opposite (nat_eq (r % quarter_turn) 0) _ _ _ _ (half_axis (r / quarter_turn) below) (half_quarter (r / quarter_turn) (r % quarter_turn) below)

pub half_turn_law : HalfTurnLaw
half_turn_law z = ap sine_at (reduced_later z half_turn) ∙ half_at (reduced_angle z) (reduced_below z)

-- r and s are opposite in the turn
odd_axis : (q p : ℕ) → q < 4 → p ≡ (4 - q) % 4 → axis_sine q ≡ neg_ℤ (axis_sine p)
odd_axis zero p h e = ap (λ (n : ℕ). neg_ℤ (axis_sine n)) (sym e)
odd_axis (suc zero) p h e = ap (λ (n : ℕ). neg_ℤ (axis_sine n)) (sym e)
odd_axis (suc (suc zero)) p h e = ap (λ (n : ℕ). neg_ℤ (axis_sine n)) (sym e)
odd_axis (suc (suc (suc zero))) p h e = ap (λ (n : ℕ). neg_ℤ (axis_sine n)) (sym e)
odd_axis (suc (suc (suc (suc q)))) p h e = absurd (omega arith)

odd_quarter : (q s p t : ℕ) → q < 4 → p ≡ 3 - q → s ≤ quarter_turn → t ≡ quarter_turn - s → quarter_sine q s ≡ neg_ℤ (quarter_sine p t)
odd_quarter q s p t h e k f = by q h ∙ ap₂ (λ (x y : ℕ). neg_ℤ (quarter_sine x y)) (sym e) (sym f)
  where
    back : quarter_turn - (quarter_turn - s) ≡ s
    back = omega arith

    by : (q : ℕ) → q < 4 → quarter_sine q s ≡ neg_ℤ (quarter_sine (3 - q) (quarter_turn - s))
    by zero l = ap sine_series (sym back) ∙ sym (neg_ℤ-neg_ℤ (sine_series (quarter_turn - (quarter_turn - s))))
    by (suc zero) l = sym (neg_ℤ-neg_ℤ (sine_series (quarter_turn - s)))
    by (suc (suc zero)) l = ap (λ (n : ℕ). neg_ℤ (sine_series n)) (sym back)
    by (suc (suc (suc zero))) l = refl
    by (suc (suc (suc (suc q)))) l = absurd (omega arith)

odd_at : (r s : ℕ) → r < full_turn → s < full_turn → (r + s) % full_turn ≡ 0 → sine_at r ≡ neg_ℤ (sine_at s)
unfolding sine_at
odd_at r s h k e = by (nat_eq (r % quarter_turn) 0) refl (nat_eq (s % quarter_turn) 0) refl
  where
    by : (t : Bool) → nat_eq (r % quarter_turn) 0 ≡ t → (u : Bool) → nat_eq (s % quarter_turn) 0 ≡ u
        → (if t then axis_sine (r / quarter_turn) else quarter_sine (r / quarter_turn) (r % quarter_turn)) ≡ neg_ℤ (if u then axis_sine (s / quarter_turn) else quarter_sine (s / quarter_turn) (s % quarter_turn))
    by true f true g =
        let first : r % quarter_turn ≡ 0 = grind (arith, nat_tests) in
        let second : s % quarter_turn ≡ 0 = grind (arith, nat_tests) in
        odd_axis (r / quarter_turn) (s / quarter_turn) (omega arith) (omega arith)
    by true f false g =
        let first : r % quarter_turn ≡ 0 = grind (arith, nat_tests) in
        let second : 0 < s % quarter_turn = grind (arith, nat_tests) in
        absurd (omega arith)
    by false f true g =
        let first : 0 < r % quarter_turn = grind (arith, nat_tests) in
        let second : s % quarter_turn ≡ 0 = grind (arith, nat_tests) in
        absurd (omega arith)
    by false f false g =
        let first : 0 < r % quarter_turn = grind (arith, nat_tests) in
        let second : 0 < s % quarter_turn = grind (arith, nat_tests) in
        odd_quarter (r / quarter_turn) (r % quarter_turn) (s / quarter_turn) (s % quarter_turn) (omega arith) (omega arith) (omega arith) (omega arith)

around : (z : ℤ) → (reduced_angle (pos half_turn +ℤ z) + reduced_angle (pos half_turn -ℤ z)) % full_turn ≡ 0
around z =
    let first = reduced_here (pos half_turn +ℤ z) in
    let second = reduced_here (pos half_turn -ℤ z) in
    omega (arith, ints)

pub odd_law : OddLaw
odd_law z = odd_at (reduced_angle (pos half_turn +ℤ z)) (reduced_angle (pos half_turn -ℤ z)) (reduced_below (pos half_turn +ℤ z)) (reduced_below (pos half_turn -ℤ z)) (around z)

-- ---- arc tangents

angled : (n : ℕ) (r : Real) → angle_at n ≡ Ok r → pos n ≡ r.count
angled n r e = ap (λ (x : Real). x.count) (chosen true (record { count = pos n }) r e)

acute : (num den : ℕ) → acute_angle num den < quarter_turn
unfolding bisection
acute num den = let below = below_high (90 * 65536) 0 (90 * 65536) num den (omega arith) in omega arith

pub quadrant_law : QuadrantLaw
quadrant_law (pos zero) (pos zero) r e = absurd (cc)
quadrant_law (pos zero) (pos (suc d)) r e =
    let is = angled 0 r e in
    record { upper = λ _. omega (arith, ints); lower = λ _. inl (sym is); right = λ _. inl (omega (arith, ints)); left = λ h. absurd (omega (arith, ints)) }
quadrant_law (pos zero) (negsuc d) r e =
    let is = angled half_turn r e in
    record { upper = λ _. omega (arith, ints); lower = λ _. inr (omega (arith, ints)); right = λ h. absurd (omega (arith, ints)); left = λ _. (omega (arith, ints), omega (arith, ints)) }
quadrant_law (pos (suc n)) (pos zero) r e =
    let is = angled quarter_turn r e in
    record { upper = λ _. omega (arith, ints); lower = λ h. absurd (omega (arith, ints)); right = λ _. inl (omega (arith, ints)); left = λ _. (omega (arith, ints), omega (arith, ints)) }
quadrant_law (negsuc n) (pos zero) r e =
    let is = angled three_quarter_turn r e in
    record { upper = λ h. absurd (omega (arith, ints)); lower = λ _. inr (omega (arith, ints)); right = λ _. inr (omega (arith, ints)); left = λ _. (omega (arith, ints), omega (arith, ints)) }
quadrant_law (pos (suc n)) (pos (suc d)) r e =
    let is = angled (acute_angle (suc n) (suc d)) r e in
    let below = acute (suc n) (suc d) in
    record { upper = λ _. omega (arith, ints); lower = λ h. absurd (omega (arith, ints)); right = λ _. inl (omega (arith, ints)); left = λ h. absurd (omega (arith, ints)) }
quadrant_law (pos (suc n)) (negsuc d) r e =
    let is = angled (half_turn - acute_angle (suc n) (suc d)) r e in
    let below = acute (suc n) (suc d) in
    record { upper = λ _. omega (arith, ints); lower = λ h. absurd (omega (arith, ints)); right = λ h. absurd (omega (arith, ints)); left = λ _. (omega (arith, ints), omega (arith, ints)) }
quadrant_law (negsuc n) (negsuc d) r e =
    let is = angled (half_turn + acute_angle (suc n) (suc d)) r e in
    let below = acute (suc n) (suc d) in
    record { upper = λ h. absurd (omega (arith, ints)); lower = λ _. inr (omega (arith, ints)); right = λ h. absurd (omega (arith, ints)); left = λ _. (omega (arith, ints), omega (arith, ints)) }
quadrant_law (negsuc n) (pos (suc d)) r e = by (acute_angle (suc n) (suc d)) (acute (suc n) (suc d)) (nat_eq (acute_angle (suc n) (suc d)) 0) e
  where
    by : (a : ℕ) → a < quarter_turn → (t : Bool) → (if t then angle_at 0 else angle_at (full_turn - a)) ≡ Ok r → IsInQuadrant (negsuc n) (pos (suc d)) r.count
    by a below true f =
        let is = angled 0 r f in
        record { upper = λ h. absurd (omega (arith, ints)); lower = λ _. inl (sym is); right = λ _. inl (omega (arith, ints)); left = λ h. absurd (omega (arith, ints)) }
    by a below false f =
        let is = angled (full_turn - a) r f in
        record { upper = λ h. absurd (omega (arith, ints)); lower = λ _. inr (omega (arith, ints)); right = λ _. inr (omega (arith, ints)); left = λ h. absurd (omega (arith, ints)) }
