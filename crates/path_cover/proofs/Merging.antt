-- Spans joined in order.
use Rattle.std.proofs.Common.{◌≡◌, ℕ, ◌+◌, ◌*◌, ◌<◌, ◌≤◌, ◌&&◌, ◌||◌, Bool, true, false, max, List, [], ◌∷◌, ◌++◌, length, get_or, take, nat_eq, nat_le, nat_lt, refl, ap, sym, ◌∙◌, inl, inr, arith}
use Rattle.std.specs.List.{list_any, All}
use Rattle.std.specs.List.Sorted.{IsPermutation, IsNonDecreasingBy}
use Rattle.std.proofs.lemmas.Bool.{cases_lt, and_parts, eqb-true, leb-true, eq-eqb, le-leb, and_from, both_ways}
use Rattle.std.proofs.lemmas.List.{take_more, take_all, get_or_default}
use Rattle.std.proofs.lemmas.List.Elements.{All-push}
use Rattle.std.proofs.lemmas.List.Folds.{list_any-append}
use Rattle.std.proofs.lemmas.List.Sorted.{list_any-IsPermutation}
use Rattle.ps_shapes.specs.declared.span.Span.{Span}
use Rattle.ps_shapes.specs.Span.{holds, is_in, IsBefore, IsOnPaper}
use Rattle.ps_shapes.proofs.Ranges.{in_range, below_range, above_range, same_range}
use Rattle.path_cover.specs.Scattered.{IsScattered, place_of, joined_of}

pub sym_any : (p : Span → Bool) (xs ys : List Span) → IsPermutation xs ys → list_any p ys ≡ list_any p xs
sym_any p xs ys h = sym (list_any-IsPermutation p xs ys h)

or_false : (b : Bool) → (b || false) ≡ b
or_false true = refl
or_false false = refl

or_assoc : (a b c : Bool) → ((a || b) || c) ≡ (a || (b || c))
or_assoc true b c = refl
or_assoc false b c = refl

or_twice : (a : Bool) → (a || a) ≡ a
or_twice true = refl
or_twice false = refl

pub is_in_push : (xs : List Span) (s : Span) (x y : ℕ) → is_in (xs ++ s ∷ []) x y ≡ (is_in xs x y || holds x y s)
is_in_push xs s x y = list_any-append (holds x y) xs (s ∷ []) ∙ ap (λ b. is_in xs x y || b) (or_false (holds x y s))

pub is_in_take : (xs : List Span) (i : ℕ) (d : Span) (x y : ℕ) → i < length xs → is_in (take (i + 1) xs) x y ≡ (is_in (take i xs) x y || holds x y (get_or xs i d))
is_in_take xs i d x y h = ap (λ (l : List Span). is_in l x y) (take_more xs i d h) ∙ is_in_push (take i xs) (get_or xs i d) x y

back : (a b : Bool) → ((a || b) || a) ≡ (a || b)
back true b = refl
back false true = refl
back false false = refl

-- the first span is one of them
pub first_in : (xs : List Span) (d : Span) (x y : ℕ) → 0 < length xs → (is_in xs x y || holds x y (get_or xs 0 d)) ≡ is_in xs x y
first_in [] d x y h = absurd (omega arith)
first_in (s ∷ xs) d x y h = back (holds x y s) (is_in xs x y)

union : (f p g q x : ℕ) → f ≤ g → g ≤ p → ((nat_le f x && nat_lt x p) || (nat_le g x && nat_lt x q)) ≡ (nat_le f x && nat_lt x (max p q))
union f p g q x h i =
    elim (cases_lt x f) [
      | inl j ↦ ap (λ t. t || (nat_le g x && nat_lt x q)) (below_range f p x j) ∙ below_range g q x (omega arith) ∙ sym (below_range f (max p q) x j)
      | inr j ↦ elim (cases_lt x p) [
        | inl k ↦ ap (λ t. t || (nat_le g x && nat_lt x q)) (in_range f p x j k) ∙ sym (in_range f (max p q) x j (omega arith))
        | inr k ↦ ap (λ t. t || (nat_le g x && nat_lt x q)) (above_range f p x k) ∙ same_range g q x f (max p q) x (λ a b. (omega arith, omega arith)) (λ a b. (omega arith, omega arith))
      ]
    ]

-- a run with a span that begins in it
row_union : (e : Bool) (f p g q x : ℕ) → f ≤ g → g ≤ p → ((e && nat_le f x && nat_lt x p) || (e && nat_le g x && nat_lt x q)) ≡ (e && nat_le f x && nat_lt x (max p q))
row_union false f p g q x h i = refl
row_union true f p g q x h i = union f p g q x h i

pub joined_holds : (x y : ℕ) (run span : Span) → span.row ≡ run.row → run.first ≤ span.first → span.first ≤ run.past → (holds x y run || holds x y span) ≡ holds x y (joined_of run span)
joined_holds x y run span e h i =
    ap (λ r. holds x y run || (nat_eq r y && nat_le span.first x && nat_lt x span.past)) e
    ∙ row_union (nat_eq run.row y) run.first run.past span.first span.past x h i

pub joins_parts : (run span : Span) → (nat_eq span.row run.row && nat_le span.first run.past) ≡ true → (span.row ≡ run.row) × (span.first ≤ run.past)
joins_parts run span h = let p = and_parts (nat_eq span.row run.row) (nat_le span.first run.past) h in (eqb-true span.row run.row p.0, leb-true span.first run.past p.1)

pub parts_past : (run span : Span) → (nat_eq span.row run.row && nat_le span.first run.past) ≡ false → span.row ≡ run.row → run.past < span.first
parts_past run span h e = elim (cases_lt run.past span.first) [
  | inl i ↦ i
  | inr i ↦ (let yes : (nat_eq span.row run.row && nat_le span.first run.past) ≡ true = and_from _ _ (eq-eqb span.row run.row e) (le-leb span.first run.past i) in absurd (both_ways (nat_eq span.row run.row && nat_le span.first run.past) h yes))
]

-- what is known between two steps
pub record Joining (spans merged : List Span) (run first : Span) (i width height : ℕ) : Type 0 where
  pub exact : (x y : ℕ) → (is_in merged x y || holds x y run) ≡ (is_in (take i spans) x y || holds x y first)
  pub filled : run.first < run.past
  pub row : run.row < height
  pub past : run.past ≤ width
  pub after : All (λ s. IsBefore s run) merged
  pub paper : IsOnPaper width height merged
  pub low : (j : ℕ) (d : Span) → i ≤ j → j < length spans → place_of run ≤ place_of (get_or spans j d)

pub joining_none : (spans : List Span) (d : Span) (width height : ℕ) → 0 < length spans → IsNonDecreasingBy place_of spans → IsScattered width height spans → Joining spans [] (get_or spans 0 d) (get_or spans 0 d) 0 width height
joining_none spans d width height h sorted raw = let r = raw 0 d h in record {
  exact = λ x y. refl;
  filled = r.1;
  row = r.0;
  past = r.2;
  after = λ k e l. absurd (omega arith);
  paper = λ k e l. absurd (omega arith);
  low = λ j e k l. (let f : get_or spans 0 d ≡ get_or spans 0 e = get_or_default spans 0 d e h in
      let g : place_of (get_or spans 0 d) ≡ place_of (get_or spans 0 e) = ap place_of f in
      let s : place_of (get_or spans 0 e) ≤ place_of (get_or spans j e) = sorted 0 j e (omega arith) l in omega arith);
}

swap_or : (a b c : Bool) → ((a || b) || c) ≡ ((a || c) || b)
swap_or true b c = refl
swap_or false true true = refl
swap_or false true false = refl
swap_or false false true = refl
swap_or false false false = refl

pub joining_more : (spans merged : List Span) (run first d : Span) (i width height : ℕ) → i < length spans → IsScattered width height spans → (nat_eq (get_or spans i d).row run.row && nat_le (get_or spans i d).first run.past) ≡ true → Joining spans merged run first i width height → Joining spans merged (joined_of run (get_or spans i d)) first (i + 1) width height
joining_more spans merged run first d i width height h raw test v =
    let span = get_or spans i d in
    let p = joins_parts run span test in
    let r = raw i d h in
    let low : place_of run ≤ place_of span = v.low i d (omega arith) h in
    let scaled : span.row * 4294967296 ≡ run.row * 4294967296 = ap (λ n. n * 4294967296) p.0 in
    record {
      exact = λ x y.
          ap (λ b. is_in merged x y || b) (sym (joined_holds x y run span p.0 (omega arith) p.1))
          ∙ sym (or_assoc (is_in merged x y) (holds x y run) (holds x y span))
          ∙ ap (λ b. b || holds x y span) (v.exact x y)
          ∙ swap_or (is_in (take i spans) x y) (holds x y first) (holds x y span)
          ∙ ap (λ b. b || holds x y first) (sym (is_in_take spans i d x y h));
      filled = (let f : run.first < run.past = v.filled in omega arith);
      row = v.row;
      past = (let f : run.past ≤ width = v.past in let g : span.past ≤ width = r.2 in omega arith);
      after = v.after;
      paper = v.paper;
      low = λ j e k l. v.low j e (omega arith) l;
    }

pub joining_next : (spans merged : List Span) (run first d : Span) (i width height : ℕ) → i < length spans → width < 4294967296 → IsNonDecreasingBy place_of spans → IsScattered width height spans → (nat_eq (get_or spans i d).row run.row && nat_le (get_or spans i d).first run.past) ≡ false → Joining spans merged run first i width height → Joining spans (merged ++ run ∷ []) (get_or spans i d) first (i + 1) width height
joining_next spans merged run first d i width height h wide sorted raw test v =
    let span = get_or spans i d in
    let r = raw i d h in
    let low : place_of run ≤ place_of span = v.low i d (omega arith) h in
    let filled : run.first < run.past = v.filled in
    let small : span.first < span.past = r.1 in
    let limit : span.past ≤ width = r.2 in
    let rows : run.row ≤ span.row = omega arith in
    let before : IsBefore run span = (rows, λ e. parts_past run span test (sym e)) in
    let each : All (λ s. IsBefore s span) merged = λ k e l.
    (let b = v.after k e l in
    let up : (get_or merged k e).row ≤ run.row = b.0 in
    (omega arith, λ same. (let one : (get_or merged k e).past < run.first = b.1 (omega arith) in let two : run.past < span.first = before.1 (omega arith) in omega arith))) in
    record {
      exact = λ x y.
          ap (λ b. b || holds x y span) (is_in_push merged run x y ∙ v.exact x y)
          ∙ swap_or (is_in (take i spans) x y) (holds x y first) (holds x y span)
          ∙ ap (λ b. b || holds x y first) (sym (is_in_take spans i d x y h));
      filled = r.1;
      row = r.0;
      past = r.2;
      after = All-push (λ s. IsBefore s span) merged run each before;
      paper = All-push (λ (s : Span). (s.row < height) × (s.past ≤ width)) merged run v.paper (v.row, v.past);
      low = λ j e k l. (let f : get_or spans i d ≡ get_or spans i e = get_or_default spans i d e h in
          let g : place_of span ≡ place_of (get_or spans i e) = ap place_of f in
          let s : place_of (get_or spans i e) ≤ place_of (get_or spans j e) = sorted i j e (omega arith) l in omega arith);
    }

pub joining_all : (spans merged : List Span) (run d : Span) (i width height : ℕ) → 0 < length spans → length spans ≤ i → Joining spans merged run (get_or spans 0 d) i width height → (x y : ℕ) → is_in (merged ++ run ∷ []) x y ≡ is_in spans x y
joining_all spans merged run d i width height h far v x y =
    is_in_push merged run x y ∙ v.exact x y ∙ ap (λ (l : List Span). is_in l x y || holds x y (get_or spans 0 d)) (take_all i spans far) ∙ first_in spans d x y h

pub joining_paper : (spans merged : List Span) (run first : Span) (i width height : ℕ) → Joining spans merged run first i width height → IsOnPaper width height (merged ++ run ∷ [])
joining_paper spans merged run first i width height v = All-push (λ (s : Span). (s.row < height) × (s.past ≤ width)) merged run v.paper (v.row, v.past)
