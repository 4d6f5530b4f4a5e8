-- Edges that count as their sides do.
use Rattle.std.proofs.Common.{◌≡◌, ℕ, ℤ, suc, ◌-◌, ◌+◌, ◌<◌, ◌≤◌, ◌≤ℤ◌, ◌<ℤ◌, ◌&&◌, Bool, true, false, not, cond, List, [], ◌∷◌, ◌++◌, length, get_or, take, drop, nat_le, nat_lt, refl, ap, sym, ◌∙◌, inl, inr, arith}
use Rattle.std.specs.Prelude.{int_le, int_lt, count_by}
use Rattle.std.proofs.lemmas.Int.{ints}
use Rattle.std.proofs.lemmas.Bool.{cases_lt, le-leb, lt-leb, lt-ltb, le-ltb}
use Rattle.std.proofs.lemmas.List.Sums.{sum_by_push, sum_by-cons}
use Rattle.std.proofs.lemmas.List.{take_more, nil_from_length, length-drop}
use Rattle.std.proofs.Math.Seq.{drop-cons}
use Rattle.path_cover.specs.Rows.{HasRows}
use Rattle.ps_shapes.specs.declared.polygon.Point.{Point}
use Rattle.path_cover.specs.Cover.{centre, is_left, passes, counts, sides_after}
use Rattle.path_cover.specs.Marks.{marks, is_going, crosses}
use Rattle.path_cover.specs.declared.edge.Edge.{Edge}
use Rattle.path_cover.specs.declared.crossing.Crossing.{Crossing}

-- 1 or 0
abbrev pub one_if : Bool → ℕ
one_if b = cond b 1 0

pub count_push : {A : Type 0} (p : A → Bool) (xs : List A) (x : A) → count_by p (xs ++ x ∷ []) ≡ count_by p xs + one_if (p x)
count_push p xs x = sum_by_push (λ a. one_if (p a)) xs x

pub count_cons : {A : Type 0} (p : A → Bool) (x : A) (xs : List A) → count_by p (x ∷ xs) ≡ one_if (p x) + count_by p xs
count_cons p x xs = sum_by-cons (λ a. one_if (p a)) x xs

turned_nat : (a y : ℕ) → nat_lt y a ≡ not (nat_le a y)
turned_nat a y = elim (cases_lt y a) [
  | inl h ↦ lt-ltb y a h ∙ ap not (sym (lt-leb a y h))
  | inr h ↦ le-ltb y a h ∙ ap not (sym (le-leb a y h))
]

turned_int : (a b : ℤ) → int_lt a b ≡ not (int_le b a)
turned_int a b = grind (arith, ints)

-- by its rows
pub passes_rows : (p q : Point) (a b x y : ℕ) → nat_le a y ≡ int_le p.y (centre y) → nat_le b y ≡ int_le q.y (centre y) → (nat_le a y && nat_lt y b && is_left p q x y) ≡ passes p q x y
passes_rows p q a b x y e f =
    let g : nat_lt y b ≡ int_lt (centre y) q.y = turned_nat b y ∙ ap not f ∙ sym (turned_int (centre y) q.y) in
    ap (λ s. s && nat_lt y b && is_left p q x y) e ∙ ap (λ t. int_le p.y (centre y) && t && is_left p q x y) g

and_false : (b : Bool) → (b && false) ≡ false
and_false true = refl
and_false false = refl

none : (a b y : ℕ) (l : Bool) → b ≤ a → (nat_le a y && nat_lt y b && l) ≡ false
none a b y l h = elim (cases_lt y a) [
  | inl i ↦ ap (λ t. t && nat_lt y b && l) (lt-leb a y i)
  | inr i ↦ ap (λ t. t && l) (ap (λ t. nat_le a y && t) (le-ltb y b (omega arith)) ∙ and_false (nat_le a y))
]

-- an edge that goes down, one that goes up, and none
pub marks_down : (down : Bool) (x y : ℕ) (e : Edge) → e.down ≡ true → e.first ≤ e.past → nat_le e.first y ≡ int_le e.top.y (centre y) → nat_le e.past y ≡ int_le e.bottom.y (centre y) → marks down x y e ≡ counts down x y (e.top, e.bottom)
marks_down true x y e d h f g = ap (λ b. b && (nat_le e.first y && nat_lt y e.past && is_left e.top e.bottom x y)) d ∙ passes_rows e.top e.bottom e.first e.past x y f g
marks_down false x y e d h f g = ap (λ b. not b && (nat_le e.first y && nat_lt y e.past && is_left e.top e.bottom x y)) d ∙ sym (sym (passes_rows e.bottom e.top e.past e.first x y g f) ∙ none e.past e.first y (is_left e.bottom e.top x y) h)

pub marks_up : (down : Bool) (x y : ℕ) (e : Edge) → e.down ≡ false → e.first ≤ e.past → nat_le e.first y ≡ int_le e.top.y (centre y) → nat_le e.past y ≡ int_le e.bottom.y (centre y) → marks down x y e ≡ counts down x y (e.bottom, e.top)
marks_up false x y e d h f g = ap (λ b. not b && (nat_le e.first y && nat_lt y e.past && is_left e.top e.bottom x y)) d ∙ passes_rows e.top e.bottom e.first e.past x y f g
marks_up true x y e d h f g = ap (λ b. b && (nat_le e.first y && nat_lt y e.past && is_left e.top e.bottom x y)) d ∙ sym (sym (passes_rows e.bottom e.top e.past e.first x y g f) ∙ none e.past e.first y (is_left e.bottom e.top x y) h)

pub marks_none : (down : Bool) (x y : ℕ) (p q : Point) (a b : ℕ) → a ≤ b → b ≤ a → nat_le a y ≡ int_le p.y (centre y) → nat_le b y ≡ int_le q.y (centre y) → counts down x y (p, q) ≡ false
marks_none true x y p q a b h i f g = sym (passes_rows p q a b x y f g) ∙ none a b y (is_left p q x y) i
marks_none false x y p q a b h i f g = sym (passes_rows q p b a x y g f) ∙ none b a y (is_left q p x y) h

le_from : (a b : ℤ) → int_le a b ≡ true → a ≤ℤ b
le_from a b h = grind (arith, ints)

lt_from : (a b : ℤ) → int_le b a ≡ false → a <ℤ b
lt_from a b h = grind (arith, ints)

-- a first row of a height
abbrev pub IsFirst : ℕ → ℤ → ℕ → Type 0
IsFirst height y a = (row : ℕ) → row < height → nat_le a row ≡ int_le y (centre row)

pub rows_between : (p q : Point) (a b height : ℕ) → IsFirst height p.y a → IsFirst height q.y b → b ≤ height → HasRows p q a b
rows_between p q a b height f g h = record {
  above = λ y i j. le_from p.y (centre y) (sym (f y (omega arith)) ∙ le-leb a y i);
  below = λ y i j. lt_from (centre y) q.y (sym (g y (omega arith)) ∙ lt-leb b y j);
}

-- what one more edge adds
pub pushed_down : (down : Bool) (x y height : ℕ) (edges : List Edge) (e : Edge) → y < height → e.down ≡ true → e.first < e.past → IsFirst height e.top.y e.first → IsFirst height e.bottom.y e.past → count_by (marks down x y) (edges ++ e ∷ []) ≡ count_by (marks down x y) edges + one_if (counts down x y (e.top, e.bottom))
pushed_down down x y height edges e k d h f g = count_push (marks down x y) edges e ∙ ap (λ b. count_by (marks down x y) edges + one_if b) (marks_down down x y e d (omega arith) (f y k) (g y k))

pub pushed_up : (down : Bool) (x y height : ℕ) (edges : List Edge) (e : Edge) → y < height → e.down ≡ false → e.first < e.past → IsFirst height e.top.y e.first → IsFirst height e.bottom.y e.past → count_by (marks down x y) (edges ++ e ∷ []) ≡ count_by (marks down x y) edges + one_if (counts down x y (e.bottom, e.top))
pushed_up down x y height edges e k d h f g = count_push (marks down x y) edges e ∙ ap (λ b. count_by (marks down x y) edges + one_if b) (marks_up down x y e d (omega arith) (f y k) (g y k))

pub pushed_none : (down : Bool) (x y height : ℕ) (p q : Point) (a b n : ℕ) → y < height → a ≤ b → b ≤ a → IsFirst height p.y a → IsFirst height q.y b → n ≡ n + one_if (counts down x y (p, q))
pushed_none down x y height p q a b n k h i f g = let e : one_if (counts down x y (p, q)) ≡ 0 = ap one_if (marks_none down x y p q a b h i (f y k) (g y k)) in omega (arith, e)

drop_step : {A : Type 0} (xs : List A) (i : ℕ) (d : A) → i < length xs → drop i xs ≡ get_or xs i d ∷ drop (i + 1) xs
drop_step xs i d h = drop-cons xs i d h ∙ ap (λ k. get_or xs i d ∷ drop k xs) (let e : suc i ≡ i + 1 = omega arith in e)

drop_past : {A : Type 0} (xs : List A) (i : ℕ) → length xs ≤ i → drop i xs ≡ []
drop_past xs i h = nil_from_length (drop i xs) (length-drop i xs ∙ (let e : length xs - i ≡ 0 = omega arith in e))

-- one more point
pub next_side : (down : Bool) (x y : ℕ) (from : Point) (points : List Point) (i : ℕ) (to : Point) (before now whole : ℕ) → i < length points → to ≡ get_or points i to → before + count_by (counts down x y) (sides_after from (drop i points)) ≡ whole → now ≡ before + one_if (counts down x y (from, to)) → now + count_by (counts down x y) (sides_after to (drop (i + 1) points)) ≡ whole
next_side down x y from points i to before now whole h e was is =
    let split : drop i points ≡ to ∷ drop (i + 1) points = drop_step points i to h ∙ ap (λ (p : Point). p ∷ drop (i + 1) points) (sym e) in
    let was' : before + count_by (counts down x y) (sides_after from (to ∷ drop (i + 1) points)) ≡ whole = ap (λ (l : List Point). before + count_by (counts down x y) (sides_after from l)) (sym split) ∙ was in
    omega (arith, was', is, count_cons (counts down x y) (from, to) (sides_after to (drop (i + 1) points)))

pub no_side : (down : Bool) (x y : ℕ) (from : Point) (points : List Point) (i : ℕ) (n whole : ℕ) → length points ≤ i → n + count_by (counts down x y) (sides_after from (drop i points)) ≡ whole → n ≡ whole
no_side down x y from points i n whole h e =
    let none : drop i points ≡ [] = drop_past points i h in
    let e' : n + 0 ≡ whole = ap (λ (l : List Point). n + count_by (counts down x y) (sides_after from l)) (sym none) ∙ e in
    omega (arith, e')

-- one more edge
taken : (down : Bool) (x row : ℕ) (active : List Edge) (i : ℕ) (e : Edge) → i < length active → e ≡ get_or active i e → count_by (marks down x row) (take (i + 1) active) ≡ count_by (marks down x row) (take i active) + one_if (marks down x row e)
taken down x row active i e h is = ap (λ (l : List Edge). count_by (marks down x row) l) (take_more active i e h ∙ ap (λ (f : Edge). take i active ++ f ∷ []) (sym is)) ∙ count_push (marks down x row) (take i active) e

-- one more crossing
pub crossing_more : (down : Bool) (x row column : ℕ) (active : List Edge) (i : ℕ) (e : Edge) (out : List Crossing) → i < length active → e ≡ get_or active i e → (nat_le e.first row && nat_lt row e.past) ≡ true → nat_le column x ≡ is_left e.top e.bottom x row → count_by (crosses down x) out ≡ count_by (marks down x row) (take i active) → count_by (crosses down x) (out ++ record { column = column; down = e.down } ∷ []) ≡ count_by (marks down x row) (take (i + 1) active)
crossing_more down x row column active i e out h is inside least was =
    let c : Crossing = record { column = column; down = e.down } in
    let same : crosses down x c ≡ marks down x row e = ap (λ b. is_going down e.down && b) (least ∙ ap (λ t. t && is_left e.top e.bottom x row) (sym inside)) in
    count_push (crosses down x) out c ∙ ap (λ n. n + one_if (crosses down x c)) was ∙ ap (λ b. count_by (marks down x row) (take i active) + one_if b) same ∙ sym (taken down x row active i e h is)

pub crossing_none : (down : Bool) (x row : ℕ) (active : List Edge) (i : ℕ) (e : Edge) (n : ℕ) → i < length active → e ≡ get_or active i e → (nat_le e.first row && nat_lt row e.past) ≡ false → n ≡ count_by (marks down x row) (take i active) → n ≡ count_by (marks down x row) (take (i + 1) active)
crossing_none down x row active i e n h is outside was =
    let off : marks down x row e ≡ false = ap (λ t. is_going down e.down && (t && is_left e.top e.bottom x row)) outside ∙ and_false (is_going down e.down) in
    let zero : one_if (marks down x row e) ≡ 0 = ap one_if off in
    omega (arith, was, taken down x row active i e h is, zero)
