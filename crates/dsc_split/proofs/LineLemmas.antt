-- How long lines are, and how the lines of a text follow one another.
use Rattle.std.proofs.Common.{◌≡◌, ◌⊎◌, ℕ, zero, suc, ◌+◌, ◌-◌, ◌<◌, ◌≤◌, List, [], ◌∷◌, length, drop, min, refl, sym, ap, ◌∙◌, arith, inl, inr, ⊎_elim, length-drop}
use Rattle.std.specs.List.{position_or_len}
use Rattle.std.specs.Prelude.{not}
use Rattle.std.proofs.lemmas.Bool.{cases_lt}
use Rattle.std.proofs.lemmas.List.{drop-drop, length-take-le, drop_all}
use Rattle.std.proofs.lemmas.List.Sums.{prefix_len-le-length}
use Rattle.std.proofs.Math.Seq.{drop-nil}
use Rattle.dsc_split.specs.Comments.{comment_of}
use Rattle.dsc_split.specs.Lines.{ends_line, line_of, line_end_len, line_len, lines_len, data_len, reach_of, lines_at}

pub line_end_len_le : (text : List ℕ) → line_end_len text ≤ length text
line_end_len_le [] = omega arith
line_end_len_le (_ ∷ []) = omega arith
line_end_len_le (x ∷ y ∷ rest) = grind arith

line_end_len_pos : (text : List ℕ) → 0 < length text → 0 < line_end_len text
line_end_len_pos [] h = h
line_end_len_pos (_ ∷ []) h = omega arith
line_end_len_pos (x ∷ y ∷ rest) h = grind arith

pub length-line_of : (text : List ℕ) → length (line_of text) ≡ position_or_len ends_line text
length-line_of text = length-take-le _ text (prefix_len-le-length _ text)

pub line_len_le : (text : List ℕ) → line_len text ≤ length text
line_len_le text =
    let n = length (line_of text) in
    let small : n ≤ length text = omega (arith, length-line_of text, prefix_len-le-length (λ b. not (ends_line b)) text) in
    omega (arith, line_end_len_le (drop n text), length-drop n text)

pub line_len_pos : (text : List ℕ) → 0 < length text → 0 < line_len text
line_len_pos text h =
    let n = length (line_of text) in
    let end_pos : n < length text → 0 < line_end_len (drop n text) = λ lt. line_end_len_pos (drop n text) (omega (arith, length-drop n text)) in
    ⊎_elim (λ lt. omega (arith, end_pos lt)) (λ ge. omega arith) (cases_lt n (length text))

lines_len-nil : (count : ℕ) → lines_len count [] ≡ 0
unfolding lines_len
lines_len-nil zero = refl
lines_len-nil (suc count) = omega (arith, lines_len-nil count)

pub lines_len_le : (count : ℕ) (text : List ℕ) → lines_len count text ≤ length text
unfolding lines_len
lines_len_le zero text = omega arith
lines_len_le (suc count) text = omega (arith, line_len_le text, lines_len_le count (drop (line_len text) text), length-drop (line_len text) text)

-- so many lines as there are bytes are all
lines_len_all : (count : ℕ) (text : List ℕ) → length text ≤ count → lines_len count text ≡ length text
unfolding lines_len
lines_len_all zero text h = omega arith
lines_len_all (suc count) text h =
    let pos : 0 < length text → 0 < line_len text = line_len_pos text in
    let short : length (drop (line_len text) text) ≤ count =
    ⊎_elim (λ lt. omega (arith, pos lt, length-drop (line_len text) text)) (λ ge. omega (arith, length-drop (line_len text) text)) (cases_lt 0 (length text))
    in
    omega (arith, lines_len_all count (drop (line_len text) text) short, line_len_le text, length-drop (line_len text) text)

pub lines_len_capped : (count most number : ℕ) (text : List ℕ) → number ≡ min count most → length text ≤ most
    → lines_len number text ≡ min (lines_len count text) (length text)
lines_len_capped count most number text e h =
    ⊎_elim
    (λ lt. let same : number ≡ count = omega arith in omega (arith, ap (λ n. lines_len n text) same, lines_len_le count text))
    (λ ge. let many : length text ≤ number = omega arith in let all : length text ≤ count = omega arith in
    omega (arith, lines_len_all number text many, lines_len_all count text all))
    (cases_lt count most)

-- a line more
pub lines_len_more : (left len : ℕ) (text : List ℕ) → 0 < left → len < length text
    → len + lines_len left (drop len text) ≡ len + line_len (drop len text) + lines_len (left - 1) (drop (len + line_len (drop len text)) text)
unfolding lines_len
lines_len_more zero len text h g = absurd (omega arith)
lines_len_more (suc left) len text h g =
    let one : left ≡ suc left - 1 = omega arith in
    let same = ap (lines_len left) (drop-drop (line_len (drop len text)) len text) ∙ ap (λ n. lines_len n (drop (len + line_len (drop len text)) text)) one in
    omega (arith, same)

pub lines_len_none : (left len : ℕ) (text : List ℕ) → left ≡ 0 → len + lines_len left (drop len text) ≡ len
unfolding lines_len
lines_len_none left len text h = omega (arith, ap (λ n. lines_len n (drop len text)) h)

pub lines_len_past : (left len : ℕ) (text : List ℕ) → length text ≤ len → len + lines_len left (drop len text) ≡ len
lines_len_past left len text h = omega (arith, ap (lines_len left) (drop_all len text h), lines_len-nil left)

-- the lines behind what is passed over
lines_passed : (place passed : ℕ) (text : List ℕ) → lines_at place passed text ≡ lines_at (place + passed) 0 (drop passed text)
unfolding lines_at
lines_passed place passed [] = ap (lines_at (place + passed) 0) (sym (drop-nil passed))
lines_passed place zero (b ∷ rest) = ap (λ p. lines_at p 0 (b ∷ rest)) (omega arith)
lines_passed place (suc passed) (b ∷ rest) = lines_passed (place + 1) passed rest ∙ ap (λ p. lines_at p 0 (drop passed rest)) (omega arith)

-- the same lines, or none
lines_same : (p q m n : ℕ) (text : List ℕ) → (((p ≡ q) × (m ≡ n)) ⊎ ((length text ≤ m) × (length text ≤ n))) → lines_at p 0 (drop m text) ≡ lines_at q 0 (drop n text)
unfolding lines_at
lines_same p q m n text h =
    ⊎_elim
    (λ same. ap (λ k. lines_at k 0 (drop m text)) same.0 ∙ ap (λ k. lines_at q 0 (drop k text)) same.1)
    (λ past. ap (lines_at p 0) (drop_all m text past.0) ∙ sym (ap (lines_at q 0) (drop_all n text past.1)))
    h

-- a line, and those after its data
pub lines_step : (place len : ℕ) (text : List ℕ) → 0 < length text
    → len ≡ line_len text + min (data_len (comment_of (line_of text)) (line_of text) (drop (line_len text) text)) (length (drop (line_len text) text))
    → lines_at place 0 text ≡ record { from = place; to = place + line_len text; comment = comment_of (line_of text) } ∷ lines_at (place + len) 0 (drop len text)
unfolding lines_at
lines_step place len [] h e = absurd (omega arith)
lines_step place len (b ∷ rest) h e =
    let text : List ℕ = b ∷ rest in
    let passed : ℕ = data_len (comment_of (line_of text)) (line_of text) (drop (line_len text) text) in
    let some : 0 < line_len text = line_len_pos text h in
    let fits : line_len text ≤ length text = line_len_le text in
    let one : len ≡ suc (len - 1) = omega arith in
    let reach : ℕ = reach_of text in
    let same = lines_same (place + 1 + (reach - 1)) (place + len) (reach - 1) (len - 1) rest
    (⊎_elim
    (λ lt. inl (omega (arith, length-drop (line_len text) text), omega (arith, length-drop (line_len text) text)))
    (λ ge. inr (omega (arith, length-drop (line_len text) text), omega (arith, length-drop (line_len text) text)))
    (cases_lt passed (length (drop (line_len text) text))))
    in
    ap (λ later. record { from = place; to = place + line_len text; comment = comment_of (line_of text) } ∷ later)
    (lines_passed (place + 1) (reach - 1) rest ∙ same ∙ ap (λ n. lines_at (place + len) 0 (drop n text)) (sym one))
