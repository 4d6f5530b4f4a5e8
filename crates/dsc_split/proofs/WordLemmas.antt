-- How the words of a text are taken off one by one.
use Rattle.std.proofs.Common.{◌≡◌, ◌⊎◌, ◌+◌, ◌<◌, ℕ, suc, Bool, List, [], ◌∷◌, length, take, drop, refl, sym, ap, subst, ◌∙◌, arith, inl, inr, ⊎_elim}
use Rattle.std.specs.Prelude.{filter, nat_lt}
use Rattle.std.specs.List.{prefix_len, position_or_len, slice_split}
use Rattle.std.proofs.lemmas.Bool.{cases_Bool, cond-true, lt-ltb}
use Rattle.dsc_split.specs.Comments.{is_blank, words}

abbrev is_word : List ℕ → Bool
is_word part = nat_lt 0 (length part)

abbrev word_len : List ℕ → ℕ
word_len text = position_or_len is_blank text

abbrev blank_len : List ℕ → ℕ
blank_len text = prefix_len is_blank text

-- the first part of a text, and the words after it
parts : (text : List ℕ) → (others : List (List ℕ)) × (slice_split is_blank text ≡ take (word_len text) text ∷ others)
    × (filter is_word others ≡ words (drop (word_len text) text))
parts [] = ([], refl, refl)
parts (x ∷ xs) =
    let later = parts xs in
    let more : 1 + word_len xs ≡ suc (word_len xs) = omega arith in
    ⊎_elim
    (λ t. rw t (slice_split is_blank xs, refl, rw t refl))
    (λ f. rw f (later.0, rw (more, later.1) refl, rw more later.2))
    (cases_Bool (is_blank x))

-- a text behind its blanks has the same words
words_past_blanks : (text : List ℕ) → words text ≡ words (drop (blank_len text) text)
words_past_blanks [] = refl
words_past_blanks (x ∷ xs) =
    let more : 1 + blank_len xs ≡ suc (blank_len xs) = omega arith in
    ⊎_elim
    (λ t. rw t (rw more (words_past_blanks xs)))
    (λ f. let none : blank_len (x ∷ xs) ≡ 0 = rw f refl in ap (λ n. words (drop n (x ∷ xs))) (sym none))
    (cases_Bool (is_blank x))

-- behind the blanks of a text nothing or a word comes
behind : (text : List ℕ) → (drop (blank_len text) text ≡ []) ⊎ (0 < length (take (word_len (drop (blank_len text) text)) (drop (blank_len text) text)))
behind [] = inl refl
behind (x ∷ xs) =
    let more : 1 + blank_len xs ≡ suc (blank_len xs) = omega arith in
    let longer : 1 + word_len xs ≡ suc (word_len xs) = omega arith in
    ⊎_elim
    (λ t. rw t (rw more (behind xs)))
    (λ f. rw f (inr (rw f (rw longer (omega arith)))))
    (cases_Bool (is_blank x))

words_here : (body : List ℕ) → 0 < length (take (word_len body) body) → words body ≡ take (word_len body) body ∷ words (drop (word_len body) body)
words_here body h =
    let first = parts body in
    ap (filter is_word) first.1
    ∙ cond-true _ _ _ (lt-ltb _ _ h)
    ∙ ap (λ others. take (word_len body) body ∷ others) first.2

pub word_taken : (text body word rest : List ℕ) → body ≡ drop (blank_len text) text → word ≡ take (word_len body) body → rest ≡ drop (word_len body) body
    → 0 < length word → words text ≡ word ∷ words rest
word_taken text body word rest e f g h =
    let here : 0 < length (take (word_len body) body) = subst (λ w. 0 < length w) f h in
    words_past_blanks text ∙ ap words (sym e) ∙ words_here body here ∙ ap (λ w. w ∷ words (drop (word_len body) body)) (sym f) ∙ ap (λ r. word ∷ words r) (sym g)

pub no_word : (text body word rest : List ℕ) → body ≡ drop (blank_len text) text → word ≡ take (word_len body) body → rest ≡ drop (word_len body) body
    → length word ≡ 0 → (words text ≡ []) × (words rest ≡ [])
no_word text body word rest e f g h =
    let empty : body ≡ [] = ⊎_elim
    (λ none. e ∙ none)
    (λ some. absurd (let some' : 0 < length (take (word_len body) body) = subst (λ b. 0 < length (take (word_len b) b)) (sym e) some in omega (arith, ap length f)))
    (behind text)
    in
    (words_past_blanks text ∙ ap words (sym e) ∙ ap words empty, ap words g ∙ ap (λ b. words (drop (word_len b) b)) empty)
