-- The texts of the first so many numbers.
use Rattle.std.proofs.Common.{◌≡◌, ℕ, zero, suc, ◌+◌, List, [], ◌++◌, refl, ap, sym, ◌∙◌, append-nil, append_assoc, arith}
use Rattle.dump_text.specs.Contents.{counted}

counted_more : (f : ℕ → List ℕ) (n : ℕ) → counted f (n + 1) ≡ counted f n ++ f n
unfolding counted
counted_more f n = let e : n + 1 ≡ suc n = omega arith in ap (counted f) e

-- none was written
pub none_counted : (f : ℕ → List ℕ) (start : List ℕ) → start ≡ start ++ counted f 0
unfolding counted
none_counted f start = sym (append-nil start)

-- one more was written
pub one_counted : (f : ℕ → List ℕ) (n : ℕ) (start text after : List ℕ) → text ≡ start ++ counted f n → after ≡ text ++ f n → after ≡ start ++ counted f (n + 1)
one_counted f n start text after t a =
    a ∙ ap (λ s. s ++ f n) t ∙ append_assoc start (counted f n) (f n) ∙ ap (λ s. start ++ s) (sym (counted_more f n))
