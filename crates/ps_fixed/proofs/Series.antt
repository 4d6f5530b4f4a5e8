-- The terms of the sine's series, and the turn of an angle.
use Rattle.std.proofs.Common.{◌≡◌, ℕ, ◌+◌, ◌-◌, ◌*◌, ◌/◌, ◌%◌, ◌^◌, ◌<◌, ◌≤◌, refl, ap, sym, ◌∙◌, arith, mul-le-mul_left}
use Rattle.std.specs.Prelude.{ℤ, pos, ◌+ℤ◌, unsigned_abs}
use Rattle.std.proofs.lemmas.Int.{ints, int_rem_euclid_is}
use Rattle.std.proofs.Math.Nat.{div-div-eq-div-mul, div-le_of_le-mul}
use borrow.Author.Differences.{up, down}
use Rattle.ps_fixed.specs.Sines.{full_turn, reduced_angle}

pub term_less : (t x2 n : ℕ) → 0 < n → x2 ≤ n * 2 ^ 40 → t * x2 / 2 ^ 40 / n ≤ t
term_less t x2 n p h =
    let more = mul-le-mul_left t h in
    let less : t * x2 ≤ 2 ^ 40 * n * t = omega arith in
    rw (div-div-eq-div-mul (t * x2) (2 ^ 40) n) (div-le_of_le-mul (2 ^ 40 * n) less)

-- z and some turns, as a natural
reduced_is : (z : ℤ) (q : ℕ) → reduced_angle (z +ℤ pos q) ≡ (up z + (down z * full_turn - down z) + q) % full_turn
unfolding reduced_angle
reduced_is z q = ap unsigned_abs (int_rem_euclid_is (z +ℤ pos q) (pos full_turn) full_turn (down z) (up z + (down z * full_turn - down z) + q) (omega arith) refl (omega (arith, ints)))

pub reduced_here : (z : ℤ) → reduced_angle z ≡ (up z + (down z * full_turn - down z)) % full_turn
unfolding reduced_angle
reduced_here z = ap unsigned_abs (int_rem_euclid_is z (pos full_turn) full_turn (down z) (up z + (down z * full_turn - down z)) (omega arith) refl (omega (arith, ints)))

pub reduced_below : (z : ℤ) → reduced_angle z < full_turn
reduced_below z = rw (reduced_here z) (omega arith)

remainders : (m q : ℕ) → (m + q) % full_turn ≡ (m % full_turn + q) % full_turn
remainders m q = omega arith

-- a greater angle
pub reduced_later : (z : ℤ) (q : ℕ) → reduced_angle (z +ℤ pos q) ≡ (reduced_angle z + q) % full_turn
reduced_later z q =
    reduced_is z q ∙ remainders (up z + (down z * full_turn - down z)) q ∙ ap (λ (n : ℕ). (n + q) % full_turn) (sym (reduced_here z))
