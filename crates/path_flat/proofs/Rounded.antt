-- Rounding to the nearest as a shift computes it.
use Rattle.std.proofs.Common.{◌≡◌, ℕ, ◌^◌, sym, arith}
use Rattle.std.specs.Prelude.{ℤ, pos, ◌+ℤ◌}
use Rattle.std.proofs.lemmas.Int.{ints}
use Rattle.ps_fixed.specs.Rounding.{floor_of, nearest_quotient}
use Rattle.ps_fixed.proofs.Floors.{floor_unique, floor_low, floor_high}
use Rattle.path_flat.specs.Curves.{bernstein_sum, coordinate, rounded}

pub pixel_floor : (z : ℤ) → rounded z ≡ floor_of (z +ℤ pos 32768) (2 ^ 16)
unfolding rounded nearest_quotient
pixel_floor z =
    let low = floor_low (z +ℤ z +ℤ pos 65536) (2 ^ 17) (omega arith) in
    let high = floor_high (z +ℤ z +ℤ pos 65536) (2 ^ 17) (omega arith) in
    sym (floor_unique (z +ℤ pos 32768) (2 ^ 16) (rounded z) (omega (arith, ints)) (omega (arith, ints)))

halved : (z : ℤ) → nearest_quotient z 32768 ≡ floor_of (z +ℤ pos 16384) (2 ^ 15)
unfolding nearest_quotient
halved z =
    let low = floor_low (z +ℤ z +ℤ pos 32768) (2 ^ 16) (omega arith) in
    let high = floor_high (z +ℤ z +ℤ pos 32768) (2 ^ 16) (omega arith) in
    sym (floor_unique (z +ℤ pos 16384) (2 ^ 15) (nearest_quotient z 32768) (omega (arith, ints)) (omega (arith, ints)))

pub curve_floor : (part : ℕ) (a b c d : ℤ) → coordinate part a b c d ≡ floor_of (bernstein_sum part a b c d +ℤ pos 16384) (2 ^ 15)
unfolding coordinate
curve_floor part a b c d = halved (bernstein_sum part a b c d)
