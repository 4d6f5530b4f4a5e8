-- The first place at which bytes stand in a text.
use Rattle.std.proofs.Common.{◌≡◌, ℕ, zero, suc, ◌+◌, ◌<◌, ◌≤◌, Bool, true, false, cond, List, length, Option, Some, None, refl, sym, ap, subst, ◌∙◌, arith, nat_eq}
use Rattle.std.specs.Prelude.{IfSome}
use Rattle.memchr.specs.Find.{OccursAt, occurs_at, FindsNeedle}
use Rattle.memchr.proofs.lemmas.MatchLemmas.{occurs_at-true, OccursAt-true}
use Rattle.text_ops.specs.Strings.{first_from, first_place}

module _ (text sought : List ℕ) where
  absent : (at : ℕ) → ¬ OccursAt text sought at → occurs_at text sought at ≡ false
  absent at h = go (occurs_at text sought at) refl
    where
      go : (b : Bool) → occurs_at text sought at ≡ b → b ≡ false
      go true e = absurd (h (OccursAt-true text sought at e))
      go false e = refl

  passed : (at n : ℕ) → ¬ OccursAt text sought at → first_from text sought at (suc n) ≡ first_from text sought (at + 1) n
  unfolding first_from
  passed at n h = ap (λ b. cond b (Some at) (first_from text sought (at + 1) n)) (absent at h)

  nowhere : (at n : ℕ) → ((k : ℕ) → at ≤ k → k < at + n → ¬ OccursAt text sought k) → first_from text sought at n ≡ None
  unfolding first_from
  nowhere at zero h = refl
  nowhere at (suc n) h = passed at n (h at (omega arith) (omega arith)) ∙ nowhere (at + 1) n (λ k a b. h k (omega arith) (omega arith))

  here : (at n : ℕ) → OccursAt text sought at → first_from text sought at (suc n) ≡ Some at
  unfolding first_from
  here at n h = ap (λ b. cond b (Some at) (first_from text sought (at + 1) n)) (occurs_at-true text sought at h)

  somewhere : (i n k : ℕ) → i ≤ k → k < i + n → ((j : ℕ) → i ≤ j → j < k → ¬ OccursAt text sought j) → OccursAt text sought k → first_from text sought i n ≡ Some k
  somewhere i zero k a b h o = absurd (omega arith)
  somewhere i (suc n) k a b h o = go (nat_eq i k) refl (λ l. somewhere (i + 1) n k (omega arith) (omega arith) (λ j c d. h j (omega arith) d) o)
    where
      go : (t : Bool) → nat_eq i k ≡ t → (i < k → first_from text sought (i + 1) n ≡ Some k) → first_from text sought i (suc n) ≡ Some k
      go true e later =
          let p : i ≡ k = grind arith in
          subst (λ j. first_from text sought i (suc n) ≡ Some j) p (here i n (subst (OccursAt text sought) (sym p) o))
      go false e later =
          let l : i < k = grind arith in
          passed i n (h i (omega arith) l) ∙ later l

  pub found_first : (r : Option ℕ) → FindsNeedle text sought 0 r → r ≡ first_place text sought
  found_first None h = sym (nowhere 0 (length text + 1) (λ k a b. h k a (omega arith)))
  found_first (Some k) h = sym (somewhere 0 (length text + 1) k (omega arith) (omega (arith, h.0.high)) (λ j a b. h.0.before j a b) h.1)

  pub found_within : (r : Option ℕ) → FindsNeedle text sought 0 r → IfSome r (λ at. at + length sought ≤ length text)
  found_within None h = tt
  found_within (Some k) h = h.1.fits

  -- what is found lies within the text
  pub first_within : (i n k : ℕ) → first_from text sought i n ≡ Some k → k + length sought ≤ length text
  unfolding first_from
  first_within i zero k e = cc
  first_within i (suc n) k e = go (occurs_at text sought i) refl (first_within (i + 1) n k) e
    where
      go : (b : Bool) → occurs_at text sought i ≡ b → (first_from text sought (i + 1) n ≡ Some k → k + length sought ≤ length text)
          → cond b (Some i) (first_from text sought (i + 1) n) ≡ Some k → k + length sought ≤ length text
      go true p later q =
          let same : i ≡ k = cc in
          subst (λ j. j + length sought ≤ length text) same (OccursAt-true text sought i p).fits
      go false p later q = later q
