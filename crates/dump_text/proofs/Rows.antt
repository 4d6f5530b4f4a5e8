-- A row of paper that was written.
use Rattle.std.proofs.Common.{◌≡◌, ℕ, zero, suc, ◌+◌, ◌-◌, ◌<◌, ◌≤◌, min, inl, inr, List, [], ◌∷◌, ◌++◌, take, drop, length, refl, ap, sym, ◌∙◌, append-nil, append_assoc, arith}
use Rattle.std.proofs.lemmas.Bool.{cases_lt}
use Rattle.std.proofs.lemmas.List.{drop_all, take_all}
use Rattle.dump_text.specs.Papers.{row_text, rows_text}

pub drop_within : (k : ℕ) (xs : List ℕ) → drop (min k (length xs)) xs ≡ drop k xs
drop_within k xs = elim (cases_lt k (length xs)) [
  | inl h ↦ ap (λ m. drop m xs) (omega (arith, h))
  | inr h ↦ drop_all (min k (length xs)) xs (omega (arith, h)) ∙ sym (drop_all k xs h)
]

pub take_within : (k : ℕ) (xs : List ℕ) → take (min k (length xs)) xs ≡ take k xs
take_within k xs = elim (cases_lt k (length xs)) [
  | inl h ↦ ap (λ m. take m xs) (omega (arith, h))
  | inr h ↦ take_all (min k (length xs)) xs (omega (arith, h)) ∙ sym (take_all k xs h)
]

-- nothing was written
pub no_row : (stride rows : ℕ) (rest text : List ℕ) → text ++ rows_text stride (rows - 0) rest ≡ text ++ rows_text stride rows rest
no_row stride rows rest text = let e : rows - 0 ≡ rows = omega arith in ap (λ n. text ++ rows_text stride n rest) e

-- all rows were written
pub all_rows : (stride rows row : ℕ) (rest whole text : List ℕ) → rows ≤ row → text ++ rows_text stride (rows - row) rest ≡ whole → text ≡ whole
unfolding rows_text
all_rows stride rows row rest whole text h w =
    let e : rows - row ≡ 0 = omega (arith, h) in
    sym (append-nil text) ∙ ap (λ n. text ++ rows_text stride n rest) (sym e) ∙ w

-- the first of so many rows was written
pub one_row : (stride rows row : ℕ) (rest first next whole text after : List ℕ) → row < rows → first ≡ take stride rest → next ≡ drop stride rest
    → after ≡ text ++ row_text first → text ++ rows_text stride (rows - row) rest ≡ whole → after ++ rows_text stride (rows - (row + 1)) next ≡ whole
unfolding rows_text
one_row stride rows row rest first next whole text after h f n a w =
    let more : rows - row ≡ suc (rows - (row + 1)) = omega (arith, h) in
    ap (λ s. s ++ rows_text stride (rows - (row + 1)) next) (a ∙ ap (λ r. text ++ row_text r) f)
    ∙ ap (λ ys. (text ++ row_text (take stride rest)) ++ rows_text stride (rows - (row + 1)) ys) n
    ∙ append_assoc text (row_text (take stride rest)) (rows_text stride (rows - (row + 1)) (drop stride rest))
    ∙ ap (λ k. text ++ rows_text stride k rest) (sym more)
    ∙ w
