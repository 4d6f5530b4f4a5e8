-- What is left of a list behind its end.
use Rattle.std.proofs.Common.{◌≡◌, ℕ, zero, suc, List, [], ◌∷◌, drop, length, refl, arith}

pub all_dropped : {A : Type 0} (xs : List A) (i : ℕ) → i ≡ length xs → drop i xs ≡ []
all_dropped [] zero e = refl
all_dropped [] (suc i) e = refl
all_dropped (x ∷ xs) zero e = absurd (omega arith)
all_dropped (x ∷ xs) (suc i) e = all_dropped xs i (omega (arith, e))
