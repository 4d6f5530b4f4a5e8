-- Parts of a way are no longer than it.
use Rattle.std.proofs.Common.{◌≡◌, ℕ, ◌+◌, ◌*◌, ◌/◌, ◌^◌, ◌<◌, ◌≤◌, ℤ, pos, negsuc, ◌*ℤ◌, unsigned_abs, sym, subst, arith}
use Rattle.std.proofs.Math.Nat.{div-le_self}
use Rattle.std.proofs.lemmas.Int.{unsigned_abs-mul}
use Rattle.std.specs.Int.{int_div_euclid}
use Rattle.path_build.specs.Arcs.{farthest}

times : (a n : ℕ) → a ≤ 60397977600 → n ≤ 40 → a * n ≤ 2415919104000
times a n h l = grind arith

pub product_bound : (z : ℤ) (n : ℕ) → unsigned_abs z ≤ farthest → n ≤ 40 → unsigned_abs (z *ℤ pos n) ≤ 2 ^ 62
product_bound z n h l = subst (λ k. k ≤ 2 ^ 62) (sym (unsigned_abs-mul z (pos n))) (small (unsigned_abs z * n) (times (unsigned_abs z) n h l))
  where
    small : (k : ℕ) → k ≤ 2415919104000 → k ≤ 2 ^ 62
    small k h = omega (arith, h)

pub share_bound : (z : ℤ) (k m : ℕ) → unsigned_abs z ≤ m → unsigned_abs (int_div_euclid z (pos k)) ≤ m
share_bound (pos a) k m h = let d : a / k ≤ a = div-le_self a k in omega (arith, d, h)
share_bound (negsuc a) k m h = let d : a / k ≤ a = div-le_self a k in omega (arith, d, h)
