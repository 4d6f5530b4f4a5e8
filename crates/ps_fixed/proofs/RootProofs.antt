-- The root by bits is the root.
use Rattle.std.proofs.Common.{◌≡◌, ℕ, zero, suc, ◌+◌, ◌*◌, ◌^◌, ◌<◌, ◌≤◌, refl, ap, ◌∙◌, Bool, true, false, cond, nat_le, nat_lt, arith, pow-suc, le_antisymm}
use Rattle.std.specs.Prelude.{ℤ, pos, unsigned_abs, FitsSigned, ◌≤ℤ◌}
use Rattle.std.specs.Int.{w64}
use Rattle.std.proofs.lemmas.Int.{ints}
use Rattle.std.proofs.lemmas.Bool.Decides.{nat_tests}
use Rattle.std.proofs.lemmas.Nat.{mul-le}
use Rattle.ps_fixed.specs.Roots.{IsRoot, root_from, root_of}

doubled : (k : ℕ) → 2 ^ suc k ≡ 2 ^ k + 2 ^ k
doubled k = pow-suc 2 k ∙ omega arith

root_found : (k n r : ℕ) → r * r ≤ n → n < (r + 2 ^ k) * (r + 2 ^ k) → IsRoot (root_from k n r) n
unfolding root_from
root_found zero n r low high = record { low = low; high = high }
root_found (suc k) n r low high =
    by (root_found k n (r + 2 ^ k)) (root_found k n r low) (nat_le ((r + 2 ^ k) * (r + 2 ^ k)) n) refl
  where
    by : ((r + 2 ^ k) * (r + 2 ^ k) ≤ n → n < (r + 2 ^ k + 2 ^ k) * (r + 2 ^ k + 2 ^ k) → IsRoot (root_from k n (r + 2 ^ k)) n)
        → (n < (r + 2 ^ k) * (r + 2 ^ k) → IsRoot (root_from k n r) n)
        → (t : Bool) → nat_le ((r + 2 ^ k) * (r + 2 ^ k)) n ≡ t → IsRoot (cond t (root_from k n (r + 2 ^ k)) (root_from k n r)) n
    by upper lower true e = upper (grind (arith, nat_tests)) (let wide : r + 2 ^ suc k ≡ r + 2 ^ k + 2 ^ k = omega (arith, doubled k) in let same = ap (λ (x : ℕ). x * x) wide in omega arith)
    by upper lower false e = lower (grind (arith, nat_tests))

no_greater : (a b n : ℕ) → a * a ≤ n → n < (b + 1) * (b + 1) → a ≤ b
no_greater a b n h k = by (nat_lt b a) refl
  where
    by : (t : Bool) → nat_lt b a ≡ t → a ≤ b
    by true e =
        let above : b + 1 ≤ a = grind (arith, nat_tests) in
        absurd (omega (arith, mul-le (b + 1) (b + 1) a a above above))
    by false e = grind (arith, nat_tests)

only_root : (a b n : ℕ) → IsRoot a n → IsRoot b n → a ≡ b
only_root a b n f g = le_antisymm (no_greater a b n f.low g.high) (no_greater b a n g.low f.high)

pub root_is : (r : ℕ) (z : ℤ) → FitsSigned w64 z → pos 0 ≤ℤ z → IsRoot r (unsigned_abs z * 2 ^ 24) → root_of z ≡ pos r
unfolding root_of
root_is r z fits_i64 positive is =
    ap pos (only_root _ r (unsigned_abs z * 2 ^ 24) (root_found 44 (unsigned_abs z * 2 ^ 24) 0 (omega arith) (omega (arith, ints))) is)
