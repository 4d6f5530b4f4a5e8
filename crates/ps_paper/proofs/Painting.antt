-- Steps of painting.
use Rattle.std.proofs.Common.{◌≡◌, ℕ, ℤ, pos, ◌+◌, ◌*◌, ◌%◌, ◌*ℤ◌, ◌≤ℤ◌, ◌<◌, ◌≤◌, ◌&&◌, ◌||◌, Bool, true, false, cond, List, [], ◌∷◌, length, get_or, take, nat_eq, nat_le, nat_lt, refl, ap, sym, ◌∙◌, arith}
use Rattle.std.specs.Prelude.{int_le, int_lt}
use Rattle.std.proofs.lemmas.Int.{ints}
use Rattle.std.proofs.lemmas.Bool.{and_parts, eqb-true, leb-true, ltb-true, eq-eqb, le-leb, lt-ltb, and_from}
use Rattle.std.proofs.lemmas.List.{take_all, take_more}
use Rattle.std.proofs.lemmas.List.Folds.{list_any-append}
use Rattle.halftone.specs.Black.{start_level, threshold}
use Rattle.ps_shapes.specs.Screen.{Screen, IsScreen}
use Rattle.ps_shapes.specs.Sheet.{Sheet, repainted}
use Rattle.ps_shapes.specs.Span.{holds, is_in, is_in_all}
use Rattle.ps_shapes.specs.declared.span.Span.{Span}
use Rattle.ps_shapes.proofs.Ranges.{joined_range, bool_same}
use Rattle.ps_shapes.proofs.Drawn.{repainted_more, repainted_same}
use Rattle.ps_paper.specs.Ink.{ink_of}
use Rattle.ps_paper.specs.Shared.{shared_of}

abbrev pub run : ℕ → ℕ → ℕ → Span
run row first past = record { row = row; first = first; past = past }

row_joined : (e : Bool) (f m p x : ℕ) → f ≤ m → m ≤ p → ((e && nat_le f x && nat_lt x m) || (e && nat_le m x && nat_lt x p)) ≡ (e && nat_le f x && nat_lt x p)
row_joined true f m p x h i = joined_range f m p x h i
row_joined false f m p x h i = refl

holds_parts : (x y : ℕ) (s : Span) → holds x y s ≡ true → (s.row ≡ y) × (s.first ≤ x) × (x < s.past)
holds_parts x y s h =
    let a = and_parts (nat_eq s.row y && nat_le s.first x) (nat_lt x s.past) h in
    let b = and_parts (nat_eq s.row y) (nat_le s.first x) a.0 in
    (eqb-true s.row y b.0, leb-true s.first x b.1, ltb-true x s.past a.1)

-- one more pixel of a row
pub dot_more : (s t u : Sheet) (row first k : ℕ) (ink : ℕ → ℕ → Bool) (b : Bool) → t ≡ repainted s (λ x y. holds x y (run row first k)) ink → u ≡ repainted t (λ x y. holds x y (run row k (k + 1))) (λ _ _. b) → b ≡ ink k row → first ≤ k → u ≡ repainted s (λ x y. holds x y (run row first (k + 1))) ink
dot_more s t u row first k ink b before now e h =
    repainted_more s t u (λ x y. holds x y (run row first k)) (λ x y. holds x y (run row k (k + 1))) (λ x y. holds x y (run row first (k + 1))) ink before
    (now ∙ repainted_same t (λ x y. holds x y (run row k (k + 1))) (λ x y. holds x y (run row k (k + 1))) (λ _ _. b) ink (λ _ _. refl)
    (λ x y i. let p = holds_parts x y (run row k (k + 1)) i in
    let column : k ≡ x = omega arith in
    e ∙ ap (λ j. ink j row) column ∙ ap (ink x) p.0))
    (λ x y. row_joined (nat_eq row y) first k (k + 1) x h (omega arith))

-- a gray of 0 or less is black, and one of 1 or more is white
level_small : (x y : ℕ) → start_level x y ≤ 63
level_small x y = omega arith

over : (gray : ℤ) (t : ℕ) → pos 16777216 ≤ℤ gray → t ≤ 63 → int_le (gray *ℤ pos 64) (pos (t * 16777216)) ≡ false
over gray t h i = grind (arith, ints)

under : (gray : ℤ) (t : ℕ) → pos 16777216 ≤ℤ gray → t ≤ 255 → int_lt (gray *ℤ pos 255) (pos (t * 16777216)) ≡ false
under gray t h i = grind (arith, ints)

whiter : (gray : ℤ) (s : Screen) (x y : ℕ) (none : Bool) → IsScreen s → pos 16777216 ≤ℤ gray → cond none (int_le (gray *ℤ pos 64) (pos (start_level x y * 16777216))) (int_lt (gray *ℤ pos 255) (pos (threshold x y s.width s.height s.bytes * 16777216))) ≡ false
whiter gray s x y true fine h = over gray (start_level x y) h (level_small x y)
whiter gray s x y false fine h = under gray (threshold x y s.width s.height s.bytes) h (let i : get_or s.bytes (y % s.height * s.width + x % s.width) 0 < 256 = fine.small _ in omega arith)

pub white : (gray : ℤ) (s : Screen) (x y : ℕ) → IsScreen s → pos 16777216 ≤ℤ gray → ink_of gray s x y ≡ false
white gray s x y fine h = whiter gray s x y (nat_eq s.width 0) fine h

beneath : (gray : ℤ) (t : ℕ) → gray ≤ℤ pos 0 → int_le (gray *ℤ pos 64) (pos (t * 16777216)) ≡ true
beneath gray t h = grind (arith, ints)

below : (gray : ℤ) (t : ℕ) → gray ≤ℤ pos 0 → 1 ≤ t → int_lt (gray *ℤ pos 255) (pos (t * 16777216)) ≡ true
below gray t h i = grind (arith, ints)

pub darker : (gray : ℤ) (s : Screen) (x y : ℕ) (none : Bool) → gray ≤ℤ pos 0 → cond none (int_le (gray *ℤ pos 64) (pos (start_level x y * 16777216))) (int_lt (gray *ℤ pos 255) (pos (threshold x y s.width s.height s.bytes * 16777216))) ≡ true
darker gray s x y true h = beneath gray (start_level x y) h
darker gray s x y false h = below gray (threshold x y s.width s.height s.bytes) h (omega arith)

pub dark : (gray : ℤ) (s : Screen) (x y : ℕ) → gray ≤ℤ pos 0 → ink_of gray s x y ≡ true
dark gray s x y h = darker gray s x y (nat_eq s.width 0) h

pub all_white : (gray : ℤ) (s : Screen) (t : Sheet) (p : ℕ → ℕ → Bool) → IsScreen s → pos 16777216 ≤ℤ gray → repainted t p (λ _ _. false) ≡ repainted t p (ink_of gray s)
all_white gray s t p fine h = repainted_same t p p (λ _ _. false) (ink_of gray s) (λ _ _. refl) (λ x y _. sym (white gray s x y fine h))

pub all_black : (gray : ℤ) (s : Screen) (t : Sheet) (p : ℕ → ℕ → Bool) → gray ≤ℤ pos 0 → repainted t p (λ _ _. true) ≡ repainted t p (ink_of gray s)
all_black gray s t p h = repainted_same t p p (λ _ _. true) (ink_of gray s) (λ _ _. refl) (λ x y _. sym (dark gray s x y h))

held : (x y : ℕ) (s : Span) → s.row ≡ y → s.first ≤ x → x < s.past → holds x y s ≡ true
held x y s a b c = and_from _ _ (and_from _ _ (eq-eqb s.row y a) (le-leb s.first x b)) (lt-ltb x s.past c)

shared_holds : (x y : ℕ) (s t : Span) → t.row ≡ s.row → holds x y (shared_of s t) ≡ (holds x y s && holds x y t)
shared_holds x y s t e =
    bool_same _ _
    (λ h. let p = holds_parts x y (shared_of s t) h in and_from _ _ (held x y s p.0 (omega arith) (omega arith)) (held x y t (e ∙ p.0) (omega arith) (omega arith)))
    (λ h. let q = and_parts (holds x y s) (holds x y t) h in let a = holds_parts x y s q.0 in let b = holds_parts x y t q.1 in held x y (shared_of s t) a.0 (omega arith) (omega arith))

shares : (a p r : Bool) → ((a && r) || (p && r)) ≡ ((a || p) && r)
shares true true true = refl
shares true true false = refl
shares true false true = refl
shares true false false = refl
shares false true true = refl
shares false true false = refl
shares false false true = refl
shares false false false = refl

share : (s b a p r : Bool) → b ≡ (s && p) → ((s && (a && r)) || (b && r)) ≡ (s && ((a || p) && r))
share true b a p r e = rw e (shares a p r)
share false b a p r e = rw e refl

or_none : (a p : Bool) → p ≡ false → (a || p) ≡ a
or_none true p e = refl
or_none false p e = e

is_in_more : (xs : List Span) (k : ℕ) (d : Span) (x y : ℕ) → k < length xs → is_in (take (k + 1) xs) x y ≡ (is_in (take k xs) x y || holds x y (get_or xs k d))
is_in_more xs k d x y h =
    ap (λ l. is_in l x y) (take_more xs k d h)
    ∙ list_any-append (holds x y) (take k xs) (get_or xs k d ∷ [])
    ∙ ap (λ b. is_in (take k xs) x y || b) (or_none (holds x y (get_or xs k d)) false refl)

-- one more part of a clip
pub part_more : (s t u : Sheet) (span both d : Span) (xs : List Span) (k : ℕ) (rest ink : ℕ → ℕ → Bool) → k < length xs → (get_or xs k d).row ≡ span.row → both ≡ shared_of span (get_or xs k d) → t ≡ repainted s (λ x y. holds x y span && (is_in (take k xs) x y && rest x y)) ink → u ≡ repainted t (λ x y. holds x y both && rest x y) ink → u ≡ repainted s (λ x y. holds x y span && (is_in (take (k + 1) xs) x y && rest x y)) ink
part_more s t u span both d xs k rest ink h same meet before now =
    let part = get_or xs k d in
    repainted_more s t u (λ x y. holds x y span && (is_in (take k xs) x y && rest x y)) (λ x y. holds x y both && rest x y) (λ x y. holds x y span && (is_in (take (k + 1) xs) x y && rest x y)) ink before now (λ x y.
    share (holds x y span) (holds x y both) (is_in (take k xs) x y) (holds x y part) (rest x y) (ap (holds x y) meet ∙ shared_holds x y span part same)
    ∙ ap (λ b. holds x y span && (b && rest x y)) (sym (is_in_more xs k d x y h)))

skip : (s a p r : Bool) → (s ≡ true → p ≡ true → ⊥) → (s && (a && r)) ≡ (s && ((a || p) && r))
skip false a p r h = refl
skip true a true r h = absurd (h refl refl)
skip true true false r h = refl
skip true false false r h = refl

-- the test of two spans is false only where they share no pixel
pub apart : (span part : Span) (x y : ℕ) → (nat_eq part.row span.row && nat_lt part.first span.past && nat_lt span.first part.past) ≡ false → holds x y span ≡ true → holds x y part ≡ true → ⊥
apart span part x y h i j =
    let a = holds_parts x y span i in
    let b = holds_parts x y part j in
    let yes : (nat_eq part.row span.row && nat_lt part.first span.past && nat_lt span.first part.past) ≡ true = and_from _ _ (and_from _ _ (eq-eqb part.row span.row (b.0 ∙ sym a.0)) (lt-ltb part.first span.past (omega arith))) (lt-ltb span.first part.past (omega arith)) in
    cc

pub meets : (span part : Span) → (nat_eq part.row span.row && nat_lt part.first span.past && nat_lt span.first part.past) ≡ true → (part.row ≡ span.row) × (part.first < span.past) × (span.first < part.past)
meets span part h =
    let a = and_parts (nat_eq part.row span.row && nat_lt part.first span.past) (nat_lt span.first part.past) h in
    let b = and_parts (nat_eq part.row span.row) (nat_lt part.first span.past) a.0 in
    (eqb-true part.row span.row b.0, ltb-true part.first span.past b.1, ltb-true span.first part.past a.1)

-- a part that shares no pixel
pub part_past : (s t : Sheet) (span d : Span) (xs : List Span) (k : ℕ) (rest ink : ℕ → ℕ → Bool) → k < length xs → (nat_eq (get_or xs k d).row span.row && nat_lt (get_or xs k d).first span.past && nat_lt span.first (get_or xs k d).past) ≡ false → t ≡ repainted s (λ x y. holds x y span && (is_in (take k xs) x y && rest x y)) ink → t ≡ repainted s (λ x y. holds x y span && (is_in (take (k + 1) xs) x y && rest x y)) ink
part_past s t span d xs k rest ink h off before =
    let part = get_or xs k d in
    before ∙ repainted_same s (λ x y. holds x y span && (is_in (take k xs) x y && rest x y)) (λ x y. holds x y span && (is_in (take (k + 1) xs) x y && rest x y)) ink ink (λ x y.
    skip (holds x y span) (is_in (take k xs) x y) (holds x y part) (rest x y) (λ i j. apart span part x y off i j)
    ∙ ap (λ b. holds x y span && (b && rest x y)) (sym (is_in_more xs k d x y h))) (λ _ _ _. refl)

-- one more span
pub span_more : (s t u : Sheet) (d : Span) (xs : List Span) (k : ℕ) (rest ink : ℕ → ℕ → Bool) → k < length xs → t ≡ repainted s (λ x y. is_in (take k xs) x y && rest x y) ink → u ≡ repainted t (λ x y. holds x y (get_or xs k d) && rest x y) ink → u ≡ repainted s (λ x y. is_in (take (k + 1) xs) x y && rest x y) ink
span_more s t u d xs k rest ink h before now =
    let span = get_or xs k d in
    repainted_more s t u (λ x y. is_in (take k xs) x y && rest x y) (λ x y. holds x y span && rest x y) (λ x y. is_in (take (k + 1) xs) x y && rest x y) ink before now (λ x y.
    shares (is_in (take k xs) x y) (holds x y span) (rest x y)
    ∙ ap (λ b. b && rest x y) (sym (is_in_more xs k d x y h)))

and_true : (b : Bool) → b ≡ (b && true)
and_true true = refl
and_true false = refl

pub no_clips : (s : Span) (clips : List (List Span)) → length clips ≡ 0 → (x y : ℕ) → holds x y s ≡ (holds x y s && is_in_all clips x y)
no_clips s [] e x y = and_true (holds x y s)
no_clips s (c ∷ clips) e x y = cc

where_held : (h p q : Bool) → (h ≡ true → p ≡ q) → (h && p) ≡ (h && q)
where_held true p q f = f refl
where_held false p q f = refl

-- a clip is done, and the parts that were looked at are those of the span's row
pub clip_done : (s t : Sheet) (span : Span) (parts clip : List Span) (k : ℕ) (clips rest : List (List Span)) (ink : ℕ → ℕ → Bool) → length parts ≤ k → ((x : ℕ) → is_in parts x span.row ≡ is_in clip x span.row) → clips ≡ clip ∷ rest → t ≡ repainted s (λ x y. holds x y span && (is_in (take k parts) x y && is_in_all rest x y)) ink → t ≡ repainted s (λ x y. holds x y span && is_in_all clips x y) ink
clip_done s t span parts clip k clips rest ink past same split before =
    before ∙ repainted_same s _ _ ink ink (λ x y.
    where_held (holds x y span) (is_in (take k parts) x y && is_in_all rest x y) (is_in_all clips x y) (λ held.
    let row : span.row ≡ y = (holds_parts x y span held).0 in
    let here : is_in parts x y ≡ is_in clip x y = ap (λ v. is_in parts x v) (sym row) ∙ same x ∙ ap (λ v. is_in clip x v) row in
    ap (λ l. is_in l x y && is_in_all rest x y) (take_all k parts past)
    ∙ ap (λ b. b && is_in_all rest x y) here
    ∙ ap (λ (l : List (List Span)). is_in_all l x y) (sym split))) (λ _ _ _. refl)
