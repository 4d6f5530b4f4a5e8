-- Two lists of keys in order as one.
use Rattle.std.proofs.Common.{◌≡◌, ℕ, ◌+◌, ◌<◌, ◌≤◌, inl, inr, ◌⊎◌, List, [], ◌∷◌, ◌++◌, take, drop, length, refl, ap, sym, ◌∙◌, append-nil, append_assoc, arith}
use Rattle.std.specs.Prelude.{slice_index_or}
use Rattle.std.specs.declared.cmp.Ordering.{Ordering}
use Rattle.std.specs.declared.cmp.Ordering.TheVariants.{Less, Equal, Greater}
use Rattle.std.proofs.lemmas.List.{drop_all, drop_more, take_more}
use Rattle.ps_objects.specs.Order.{key_order}
use Rattle.ps_objects.specs.declared.key.Key.{Key}
use Rattle.dump_text.specs.Keys.{merged, put_first}

-- one more key was copied
pub one_key : (xs : List Key) (k : ℕ) (x : Key) (start text after : List Key) → k < length xs → x ≡ slice_index_or xs k x → text ≡ start ++ take k xs → after ≡ text ++ x ∷ [] → after ≡ start ++ take (k + 1) xs
one_key xs k x start text after h i t a =
    a ∙ ap (λ s. s ++ x ∷ []) t ∙ append_assoc start (take k xs) (x ∷ []) ∙ ap (λ y. start ++ (take k xs ++ y ∷ [])) i ∙ ap (λ ys. start ++ ys) (sym (take_more xs k x h))

-- what begins two lists in order as one
by_order : Ordering → Key → Key → List Key → List Key → List Key
by_order r k l ks ls = elim r [
  | Less ↦ l ∷ merged (k ∷ ks) ls
  | Equal ↦ k ∷ merged ks ls
  | Greater ↦ k ∷ merged ks (l ∷ ls)
]

merged_more : (k l : Key) (ks ls : List Key) → merged (k ∷ ks) (l ∷ ls) ≡ by_order (key_order l k) k l ks ls
unfolding by_order
merged_more k l ks ls = refl

pub none_second : (ks : List Key) → merged ks [] ≡ ks
none_second [] = refl
none_second (k ∷ ks) = ap (λ ls. k ∷ ls) (none_second ks)

-- the two lists from where they have come to
at_both : (xs ys : List Key) (i j : ℕ) (x y : Key) → i < length xs → j < length ys → x ≡ slice_index_or xs i x → y ≡ slice_index_or ys j y →
    merged (drop i xs) (drop j ys) ≡ by_order (key_order y x) x y (drop (i + 1) xs) (drop (j + 1) ys)
at_both xs ys i j x y h k p q =
    ap (λ zs. merged zs (drop j ys)) (drop_more xs i x h ∙ ap (λ z. z ∷ drop (i + 1) xs) (sym p))
    ∙ ap (λ zs. merged (x ∷ drop (i + 1) xs) zs) (drop_more ys j y k ∙ ap (λ z. z ∷ drop (j + 1) ys) (sym q))
    ∙ merged_more x y (drop (i + 1) xs) (drop (j + 1) ys)

here_first : (xs : List Key) (i : ℕ) (x : Key) → i < length xs → x ≡ slice_index_or xs i x → x ∷ drop (i + 1) xs ≡ drop i xs
here_first xs i x h p = ap (λ z. z ∷ drop (i + 1) xs) p ∙ sym (drop_more xs i x h)

moved : (x : Key) (keys after rest left whole : List Key) → after ≡ keys ++ x ∷ [] → left ≡ x ∷ rest → keys ++ left ≡ whole → after ++ rest ≡ whole
moved x keys after rest left whole a l w = ap (λ s. s ++ rest) a ∙ append_assoc keys (x ∷ []) rest ∙ ap (λ s. keys ++ s) (sym l) ∙ w

module _ (xs ys : List Key) (i j : ℕ) (x y : Key) (keys after whole : List Key) where
  pub from_second : i < length xs → j < length ys → x ≡ slice_index_or xs i x → y ≡ slice_index_or ys j y → key_order y x ≡ Less →
      keys ++ merged (drop i xs) (drop j ys) ≡ whole → after ≡ keys ++ y ∷ [] → after ++ merged (drop i xs) (drop (j + 1) ys) ≡ whole
  unfolding by_order
  from_second h k p q e w a =
      let left = at_both xs ys i j x y h k p q ∙ ap (λ r. by_order r x y (drop (i + 1) xs) (drop (j + 1) ys)) e
      ∙ ap (λ zs. y ∷ merged zs (drop (j + 1) ys)) (here_first xs i x h p) in
      moved y keys after (merged (drop i xs) (drop (j + 1) ys)) (merged (drop i xs) (drop j ys)) whole a left w

  pub from_both : i < length xs → j < length ys → x ≡ slice_index_or xs i x → y ≡ slice_index_or ys j y → key_order y x ≡ Equal →
      keys ++ merged (drop i xs) (drop j ys) ≡ whole → after ≡ keys ++ x ∷ [] → after ++ merged (drop (i + 1) xs) (drop (j + 1) ys) ≡ whole
  unfolding by_order
  from_both h k p q e w a =
      let left = at_both xs ys i j x y h k p q ∙ ap (λ r. by_order r x y (drop (i + 1) xs) (drop (j + 1) ys)) e in
      moved x keys after (merged (drop (i + 1) xs) (drop (j + 1) ys)) (merged (drop i xs) (drop j ys)) whole a left w

  pub from_first : i < length xs → j < length ys → x ≡ slice_index_or xs i x → y ≡ slice_index_or ys j y → key_order y x ≡ Greater →
      keys ++ merged (drop i xs) (drop j ys) ≡ whole → after ≡ keys ++ x ∷ [] → after ++ merged (drop (i + 1) xs) (drop j ys) ≡ whole
  unfolding by_order
  from_first h k p q e w a =
      let left = at_both xs ys i j x y h k p q ∙ ap (λ r. by_order r x y (drop (i + 1) xs) (drop (j + 1) ys)) e
      ∙ ap (λ zs. x ∷ merged (drop (i + 1) xs) zs) (here_first ys j y k q) in
      moved x keys after (merged (drop (i + 1) xs) (drop j ys)) (merged (drop i xs) (drop j ys)) whole a left w

-- one list is over, and the rest of both was appended
pub ended : (xs ys : List Key) (i j : ℕ) (keys middle after whole : List Key) → (length xs ≤ i) ⊎ (length ys ≤ j) → keys ++ merged (drop i xs) (drop j ys) ≡ whole →
    middle ≡ keys ++ drop i xs → after ≡ middle ++ drop j ys → after ≡ whole
ended xs ys i j keys middle after whole (inl h) w m a =
    let none : drop i xs ≡ [] = drop_all i xs h in
    a ∙ ap (λ s. s ++ drop j ys) (m ∙ ap (λ s. keys ++ s) none ∙ append-nil keys) ∙ ap (λ s. keys ++ merged s (drop j ys)) (sym none) ∙ w
ended xs ys i j keys middle after whole (inr h) w m a =
    let none : drop j ys ≡ [] = drop_all j ys h in
    a ∙ ap (λ s. middle ++ s) none ∙ append-nil middle ∙ m ∙ ap (λ s. keys ++ s) (sym (none_second (drop i xs))) ∙ ap (λ s. keys ++ merged (drop i xs) s) (sym none) ∙ w
