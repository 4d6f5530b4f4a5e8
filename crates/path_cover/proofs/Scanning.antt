-- Edges row by row.
use Rattle.std.proofs.Common.{◌≡◌, ℕ, ◌+◌, ◌-◌, ◌<◌, ◌≤◌, ◌&&◌, ◌||◌, Bool, true, false, cond, List, [], ◌∷◌, ◌++◌, length, get_or, drop, nat_eq, nat_le, nat_lt, refl, ap, sym, ◌∙◌, inl, inr, arith}
use Rattle.std.specs.Prelude.{count_by}
use Rattle.std.specs.List.{filter}
use Rattle.std.specs.List.Sorted.{IsNonDecreasingBy}
use Rattle.std.proofs.lemmas.Bool.{cases_lt, cases_order, lt-leb, lt-ltb, le-ltb, eq-eqb, ne_eqb, and_parts, eqb-true, ltb-false}
use Rattle.std.proofs.lemmas.List.Sums.{sum_by-drop_more}
use Rattle.std.proofs.lemmas.List.{get_or-drop, length-drop, get_or_default, nil_from_length}
use Rattle.path_cover.specs.Cover.{is_inside, is_left}
use Rattle.path_cover.specs.Marks.{marks, marked, is_going}
use Rattle.path_cover.specs.declared.edge.Edge.{Edge}
use Rattle.path_cover.proofs.Sides.{one_if, count_push, count_cons}
use Rattle.path_cover.proofs.Sweeping.{count_none}

and_false : (b : Bool) → (b && false) ≡ false
and_false true = refl
and_false false = refl

or_false : (b : Bool) → b ≡ (b || false)
or_false true = refl
or_false false = refl

-- an edge below the row, and one above it
pub not_below : (down : Bool) (x y : ℕ) (e : Edge) → y < e.first → marks down x y e ≡ false
not_below down x y e h = ap (λ t. is_going down e.down && (t && nat_lt y e.past && is_left e.top e.bottom x y)) (lt-leb e.first y h) ∙ and_false (is_going down e.down)

pub not_above : (down : Bool) (x y : ℕ) (e : Edge) → e.past ≤ y → marks down x y e ≡ false
not_above down x y e h =
    ap (λ t. is_going down e.down && (nat_le e.first y && t && is_left e.top e.bottom x y)) (le-ltb y e.past h)
    ∙ ap (λ t. is_going down e.down && (t && is_left e.top e.bottom x y)) (and_false (nat_le e.first y)) ∙ and_false (is_going down e.down)

pub rest_none : (down : Bool) (x row i : ℕ) (edges : List Edge) (e : Edge) → IsNonDecreasingBy (λ (f : Edge). f.first) edges → i < length edges → e ≡ get_or edges i e → row < e.first → count_by (marks down x row) (drop i edges) ≡ 0
rest_none down x row i edges e sorted h is below =
    count_none (marks down x row) (drop i edges) (λ k d l.
    let near : k < length edges - i = rw (← length-drop i edges) l in
    let f : get_or (drop i edges) k d ≡ get_or edges (i + k) d = get_or-drop i edges k d in
    let same : e ≡ get_or edges i d = is ∙ get_or_default edges i e d h in
    let first : e.first ≡ (get_or edges i d).first = ap (λ (g : Edge). g.first) same in
    let up : (get_or edges i d).first ≤ (get_or edges (i + k) d).first = sorted i (i + k) d (omega arith) (omega arith) in
    ap (λ (g : Edge). marks down x row g) f ∙ not_below down x row (get_or edges (i + k) d) (omega arith))

pub enter_more : (down : Bool) (x y i : ℕ) (edges active : List Edge) (e : Edge) (whole : ℕ) → i < length edges → e ≡ get_or edges i e → count_by (marks down x y) active + count_by (marks down x y) (drop i edges) ≡ whole → count_by (marks down x y) (active ++ e ∷ []) + count_by (marks down x y) (drop (i + 1) edges) ≡ whole
enter_more down x y i edges active e whole h is was =
    let more : count_by (marks down x y) (drop i edges) ≡ one_if (marks down x y (get_or edges i e)) + count_by (marks down x y) (drop (i + 1) edges) = sum_by-drop_more (λ (f : Edge). one_if (marks down x y f)) edges i e h in
    let same : one_if (marks down x y e) ≡ one_if (marks down x y (get_or edges i e)) = ap (λ (f : Edge). one_if (marks down x y f)) is in
    omega (arith, was, more, same, count_push (marks down x y) active e)

filter_step : {A : Type 0} (p t : A → Bool) (x : A) (xs : List A) (b : Bool) → t x ≡ b → (t x ≡ false → p x ≡ false) → count_by p (filter t xs) ≡ count_by p xs → count_by p (cond b (x ∷ filter t xs) (filter t xs)) ≡ count_by p (x ∷ xs)
filter_step p t x xs true e h rest = count_cons p x (filter t xs) ∙ (let s : one_if (p x) + count_by p (filter t xs) ≡ one_if (p x) + count_by p xs = omega (arith, rest) in s) ∙ sym (count_cons p x xs)
filter_step p t x xs false e h rest = let z : one_if (p x) ≡ 0 = ap one_if (h e) in rest ∙ (let s : count_by p xs ≡ one_if (p x) + count_by p xs = omega (arith, z) in s) ∙ sym (count_cons p x xs)

pub count_filter : {A : Type 0} (p t : A → Bool) (xs : List A) → ((x : A) → t x ≡ false → p x ≡ false) → count_by p (filter t xs) ≡ count_by p xs
count_filter p t [] h = refl
count_filter p t (x ∷ xs) h = filter_step p t x xs (t x) refl (h x) (count_filter p t xs h)

pub kept_by_row : (down : Bool) (x y row : ℕ) (e : Edge) → row ≤ y → nat_lt row e.past ≡ false → marks down x y e ≡ false
kept_by_row down x y row e h off = not_above down x y e (let p : e.past ≤ row = ltb-false row e.past off in omega arith)

at_row : (o w g : Bool) → w ≡ g → ((o || (false && w)) || (true && g)) ≡ (o || (true && w))
at_row true w g e = refl
at_row false w g e = sym e

-- one more row
pub row_more : (o w g : Bool) (y row : ℕ) → (y ≡ row → w ≡ g) → ((o || (nat_lt y row && w)) || (nat_eq row y && g)) ≡ (o || (nat_lt y (row + 1) && w))
row_more o w g y row same =
    elim (cases_order y row) [
      | inl e ↦
          ap (λ t. (o || (t && w)) || (nat_eq row y && g)) (le-ltb y row (omega arith))
          ∙ ap (λ t. (o || (false && w)) || (t && g)) (eq-eqb row y (sym e))
          ∙ at_row o w g (same e)
          ∙ ap (λ t. o || (t && w)) (sym (lt-ltb y (row + 1) (omega arith)))
      | inr h ↦ elim h [
        | inl i ↦
            ap (λ t. (o || (nat_lt y row && w)) || (t && g)) (ne_eqb row y (λ e. omega arith))
            ∙ sym (or_false (o || (nat_lt y row && w)))
            ∙ ap (λ t. o || (t && w)) (lt-ltb y row i ∙ sym (lt-ltb y (row + 1) (omega arith)))
        | inr i ↦
            ap (λ t. (o || (nat_lt y row && w)) || (t && g)) (ne_eqb row y (λ e. omega arith))
            ∙ sym (or_false (o || (nat_lt y row && w)))
            ∙ ap (λ t. o || (t && w)) (le-ltb y row (omega arith) ∙ sym (le-ltb y (row + 1) (omega arith)))
      ]
    ]

zero_inside : (odd : Bool) → is_inside odd 0 0 ≡ false
zero_inside true = refl
zero_inside false = refl

-- nothing counts
pub nothing_inside : (odd : Bool) (downs ups : ℕ) → downs ≡ 0 → ups ≡ 0 → is_inside odd downs ups ≡ false
nothing_inside odd downs ups d u = ap (λ n. is_inside odd n ups) d ∙ ap (λ n. is_inside odd 0 n) u ∙ zero_inside odd

pub none_yet : (odd : Bool) (edges : List Edge) (x y start : ℕ) (o : Bool) → ((k : ℕ) (d : Edge) → k < length edges → start ≤ (get_or edges k d).first) → o ≡ (o || (nat_lt y start && marked odd edges x y))
none_yet odd edges x y start o h =
    elim (cases_lt y start) [
      | inl i ↦ (let n : (down : Bool) → count_by (marks down x y) edges ≡ 0 = λ down. count_none (marks down x y) edges (λ k d l. let f : start ≤ (get_or edges k d).first = h k d l in not_below down x y (get_or edges k d) (omega arith)) in
          or_false o ∙ ap (λ t. o || t) (sym (ap (λ t. nat_lt y start && t) (nothing_inside odd _ _ (n true) (n false)) ∙ and_false (nat_lt y start))))
      | inr i ↦ or_false o ∙ ap (λ t. o || (t && marked odd edges x y)) (sym (le-ltb y start i))
    ]

pub none_left : (odd : Bool) (edges : List Edge) (x y row : ℕ) (o : Bool) → (row ≤ y → (down : Bool) → count_by (marks down x y) edges ≡ 0) → (o || (nat_lt y row && marked odd edges x y)) ≡ (o || marked odd edges x y)
none_left odd edges x y row o h =
    elim (cases_lt y row) [
      | inl i ↦ ap (λ t. o || (t && marked odd edges x y)) (lt-ltb y row i)
      | inr i ↦ (let m : marked odd edges x y ≡ false = nothing_inside odd _ _ (h i true) (h i false) in
          ap (λ t. o || (t && marked odd edges x y)) (le-ltb y row i) ∙ ap (λ t. o || t) (sym m))
    ]

pub done_parts : (next : ℕ) (edges active : List Edge) → (nat_eq next (length edges) && nat_eq (length active) 0) ≡ true → (next ≡ length edges) × (length active ≡ 0)
done_parts next edges active h = let p = and_parts (nat_eq next (length edges)) (nat_eq (length active) 0) h in (eqb-true next (length edges) p.0, eqb-true (length active) 0 p.1)

-- no edge is left
pub count_done : (down : Bool) (x y next : ℕ) (edges active : List Edge) (whole : ℕ) → next ≡ length edges → length active ≡ 0 → count_by (marks down x y) active + count_by (marks down x y) (drop next edges) ≡ whole → whole ≡ 0
count_done down x y next edges active whole e f was =
    let a : count_by (marks down x y) active ≡ 0 = ap (λ (l : List Edge). count_by (marks down x y) l) (nil_from_length active f) in
    let b : drop next edges ≡ [] = nil_from_length (drop next edges) (length-drop next edges ∙ (let z : length edges - next ≡ 0 = omega arith in z)) in
    let c : count_by (marks down x y) (drop next edges) ≡ 0 = ap (λ (l : List Edge). count_by (marks down x y) l) b in
    omega (arith, a, c, was)
