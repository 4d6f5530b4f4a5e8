-- An index that takes a place more.
use Rattle.std.proofs.Common.{◌≡◌, ◌≢◌, ℕ, zero, suc, ◌<◌, ◌≤◌, ◌==◌, Bool, true, false, cond, List, [], ◌∷◌, ◌++◌, length, replicate, set, Some, None, slice_get, refl, ap, sym, subst, ◌∙◌, arith, true≢false, inl, inr, ◌⊎◌}
use Rattle.std.proofs.lemmas.Bool.{eq-eqb, eqb-true}
use Rattle.dense_dict.specs.declared.hash_index.Link.{Link}
use Rattle.dense_dict.specs.Index.{bucket, passes, last_where, among, AreLinked}

one_more : (a c : ℕ) → (a < c) ⊎ ((a ≡ c) ⊎ (c < a)) → (suc a < suc c) ⊎ ((suc a ≡ suc c) ⊎ (suc c < suc a))
one_more a c (inl h) = inl (omega (arith, h))
one_more a c (inr (inl h)) = inr (inl (ap suc h))
one_more a c (inr (inr h)) = inr (inr (omega (arith, h)))

pub tri : (a c : ℕ) → (a < c) ⊎ ((a ≡ c) ⊎ (c < a))
tri zero zero = inr (inl refl)
tri zero (suc c) = inl (omega arith)
tri (suc a) zero = inr (inr (omega arith))
tri (suc a) (suc c) = one_more a c (tri a c)

-- ---- lists

module _ {A : Type 0} where
  pub got_below : (xs ys : List A) (i : ℕ) → i < length xs → slice_get (xs ++ ys) i ≡ slice_get xs i
  got_below [] ys i h = absurd (omega (arith, h))
  got_below (x ∷ xs) ys zero h = refl
  got_below (x ∷ xs) ys (suc i) h = got_below xs ys i (omega (arith, h))

  pub got_last : (xs : List A) (y : A) (i : ℕ) → i ≡ length xs → slice_get (xs ++ y ∷ []) i ≡ Some y
  got_last [] y zero h = refl
  got_last [] y (suc i) h = absurd (omega (arith, h))
  got_last (x ∷ xs) y zero h = absurd (omega (arith, h))
  got_last (x ∷ xs) y (suc i) h = got_last xs y i (omega (arith, h))

  pub got_behind : (xs : List A) (i : ℕ) → length xs ≤ i → slice_get xs i ≡ None
  got_behind [] zero h = refl
  got_behind [] (suc i) h = refl
  got_behind (x ∷ xs) zero h = absurd (omega (arith, h))
  got_behind (x ∷ xs) (suc i) h = got_behind xs i (omega (arith, h))

  pub long_pushed : (xs : List A) (y : A) → length (xs ++ y ∷ []) ≡ suc (length xs)
  long_pushed [] y = refl
  long_pushed (x ∷ xs) y = ap suc (long_pushed xs y)

  pub got_set_here : (xs : List A) (i : ℕ) (y : A) → i < length xs → slice_get (set xs i y) i ≡ Some y
  got_set_here [] i y h = absurd (omega (arith, h))
  got_set_here (x ∷ xs) zero y h = refl
  got_set_here (x ∷ xs) (suc i) y h = got_set_here xs i y (omega (arith, h))

  pub got_set_else : (xs : List A) (i j : ℕ) (y : A) → j ≢ i → slice_get (set xs i y) j ≡ slice_get xs j
  got_set_else [] i j y h = refl
  got_set_else (x ∷ xs) zero zero y h = absurd (h refl)
  got_set_else (x ∷ xs) zero (suc j) y h = refl
  got_set_else (x ∷ xs) (suc i) zero y h = refl
  got_set_else (x ∷ xs) (suc i) (suc j) y h = got_set_else xs i j y (λ e. h (ap suc e))

  pub long_set : (xs : List A) (i : ℕ) (y : A) → length (set xs i y) ≡ length xs
  long_set [] i y = refl
  long_set (x ∷ xs) zero y = refl
  long_set (x ∷ xs) (suc i) y = ap suc (long_set xs i y)

  pub got_replicated : (n i : ℕ) (y : A) → i < n → slice_get (replicate n y) i ≡ Some y
  got_replicated zero i y h = absurd (omega (arith, h))
  got_replicated (suc n) zero y h = refl
  got_replicated (suc n) (suc i) y h = got_replicated n i y (omega (arith, h))

  pub long_replicated : (n : ℕ) (y : A) → length (replicate n y) ≡ n
  long_replicated zero y = refl
  long_replicated (suc n) y = ap suc (long_replicated n y)

-- ---- the last place

same_below : (p q : ℕ → Bool) (n : ℕ) → ((i : ℕ) → i < n → p i ≡ q i) → last_where p n ≡ last_where q n
same_below p q zero h = refl
same_below p q (suc n) h = ap (λ b. cond b (suc n) (last_where p n)) (h n (omega arith)) ∙ ap (cond (q n) (suc n)) (same_below p q n (λ i l. h i (omega (arith, l))))

-- the buckets are those of the shorter list below its end
among_below : (m b n : ℕ) (ks : List Link) (k : Link) → n ≤ length ks → last_where (among m b (ks ++ k ∷ [])) n ≡ last_where (among m b ks) n
among_below m b n ks k h = same_below _ _ n (λ i l. ap (passes (λ j. bucket m j.hash == b)) (got_below ks (k ∷ []) i (omega (arith, l, h))))

-- ---- an empty index

pub none_linked : (heads : List ℕ) (links : List Link) (n : ℕ) → 0 < n → heads ≡ replicate n 0 → links ≡ [] → AreLinked heads links
none_linked heads links n h is none = record {
  nexts = λ i l s. absurd (nothing l i (sym (ap (λ ks. slice_get ks i) none) ∙ s));
  ends = λ b w. ap (λ hs. slice_get hs b) is ∙ got_replicated n b 0 (subst (λ k. b < k) (ap length is ∙ long_replicated n 0) w) ∙ ap (λ ks. Some (last_where (among (length heads) b ks) (length ks))) (sym none);
  some = λ e. none;
}
  where
    nothing : (l : Link) (i : ℕ) → slice_get [] i ≡ Some l → ⊥
    nothing l zero e = cc
    nothing l (suc i) e = cc

-- ---- a place more

module _ (heads : List ℕ) (links : List Link) (h : ℕ) (n : ℕ) where
  abbrev m : ℕ
  m = length heads

  abbrev b : ℕ
  b = bucket m h

  abbrev k : Link
  k = record { hash = h; next = n }

  abbrev after : List Link
  after = links ++ k ∷ []

  nexts_after : AreLinked heads links → n ≡ last_where (among m b links) (length links) → (i : ℕ) (l : Link) → slice_get after i ≡ Some l → l.next ≡ last_where (among m (bucket m l.hash) after) i
  nexts_after linked next i l s = go (tri i (length links))
    where
      same : k ≡ l → l.next ≡ last_where (among m (bucket m l.hash) after) (length links)
      same e = subst (λ (j : Link). j.next ≡ last_where (among m (bucket m j.hash) after) (length links)) e (next ∙ sym (among_below m b (length links) links k (omega arith)))

      some_is : Some k ≡ Some l → k ≡ l
      some_is e = cc

      none_is : None ≡ Some l → ⊥
      none_is e = cc

      go : (i < length links) ⊎ ((i ≡ length links) ⊎ (length links < i)) → l.next ≡ last_where (among m (bucket m l.hash) after) i
      go (inl w) = linked.nexts i l (sym (got_below links (k ∷ []) i w) ∙ s) ∙ sym (among_below m (bucket m l.hash) i links k (omega (arith, w)))
      go (inr (inl e)) = subst (λ j. l.next ≡ last_where (among m (bucket m l.hash) after) j) (sym e) (same (some_is (sym (got_last links k i e) ∙ s)))
      go (inr (inr w)) = absurd (none_is (sym (got_behind after i (omega (arith, w, long_pushed links k))) ∙ s))

  ends_after : AreLinked heads links → b < m → (c : ℕ) → c < m → slice_get (set heads b (suc (length links))) c ≡ Some (last_where (among m c after) (suc (length links)))
  ends_after linked within c w = go (b == c) refl
    where
      last : among m c after (length links) ≡ (b == c)
      last = ap (passes (λ j. bucket m j.hash == c)) (got_last links k (length links) refl)

      go : (t : Bool) → (b == c) ≡ t → slice_get (set heads b (suc (length links))) c ≡ Some (last_where (among m c after) (suc (length links)))
      go true e = subst (λ d. slice_get (set heads b (suc (length links))) d ≡ Some (suc (length links))) (eqb-true b c e) (got_set_here heads b (suc (length links)) within)
          ∙ sym (ap (λ t. Some (cond t (suc (length links)) (last_where (among m c after) (length links)))) (last ∙ e))
      go false e = got_set_else heads b c (suc (length links)) (λ i. true≢false (sym (eq-eqb b c (sym i)) ∙ e)) ∙ linked.ends c w
          ∙ ap Some (sym (among_below m c (length links) links k (omega arith)))
          ∙ sym (ap (λ t. Some (cond t (suc (length links)) (last_where (among m c after) (length links)))) (last ∙ e))

  linked_after : AreLinked heads links → 0 < m → b < m → n ≡ last_where (among m b links) (length links) → AreLinked (set heads b (suc (length links))) after
  linked_after linked some within next =
      let long = long_set heads b (suc (length links)) in
      record {
        nexts = λ i l s. nexts_after linked next i l s ∙ ap (λ j. last_where (among j (bucket j l.hash) after) i) (sym long);
        ends = λ c w. ends_after linked within c (subst (λ j. c < j) long w) ∙ ap (λ j. Some (last_where (among j c after) (suc (length links)))) (sym long) ∙ ap (λ j. Some (last_where (among (length (set heads b (suc (length links)))) c after) j)) (sym (long_pushed links k));
        some = λ e. absurd (empty (ap length e) long);
      }
    where
      empty : length (set heads b (suc (length links))) ≡ 0 → length (set heads b (suc (length links))) ≡ m → ⊥
      empty e l = omega (arith, e, l, some)

pub added : (heads heads' : List ℕ) (links links' : List Link) (k : Link) (at : ℕ) → AreLinked heads links → 0 < length heads → at < length heads → at ≡ bucket (length heads) k.hash
    → k.next ≡ last_where (among (length heads) (bucket (length heads) k.hash) links) (length links) → links' ≡ links ++ k ∷ [] → heads' ≡ set heads at (length links') → AreLinked heads' links'
added heads heads' links links' k at linked some within is next pushed written =
    subst (λ ks. AreLinked heads' ks) (sym pushed) (subst (λ hs. AreLinked hs (links ++ k ∷ [])) (sym (written ∙ (λ j. set heads (is j) ((ap length pushed ∙ long_pushed links k) j))))
    (linked_after heads links k.hash k.next linked some (subst (λ j. j < length heads) is within) next))
