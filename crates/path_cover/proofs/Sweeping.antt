-- Counts along the sorted crossings of a row.
use Rattle.std.proofs.Common.{◌≡◌, ℕ, suc, ◌+◌, ◌-◌, ◌<◌, ◌≤◌, ◌&&◌, ◌||◌, Bool, true, false, min, max, List, [], ◌∷◌, length, get_or, take, drop, nat_eq, nat_le, nat_lt, refl, ap, sym, ◌∙◌, inl, inr, arith}
use mir.Val.{bool_byte}
use Rattle.std.specs.Prelude.{count_by}
use Rattle.std.proofs.lemmas.Bool.{cases_lt, le-leb, lt-leb, lt-ltb, le-ltb}
use Rattle.std.proofs.lemmas.List.Sums.{sum_by-take-drop, sum_by_more}
use Rattle.std.proofs.lemmas.List.{get_or-take, get_or-drop, length-take, length-drop, get_or_default}
use Rattle.ps_shapes.specs.declared.span.Span.{Span}
use Rattle.ps_shapes.specs.Span.{is_in}
use Rattle.ps_shapes.proofs.Ranges.{in_range, below_range, above_range}
use Rattle.path_cover.specs.Cover.{is_inside}
use Rattle.path_cover.specs.Marks.{is_going, crosses, crossed}
use Rattle.path_cover.specs.declared.crossing.Crossing.{Crossing}
use Rattle.path_cover.proofs.Sides.{one_if, count_cons}

abbrev pub going : Bool → Crossing → Bool
going down c = is_going down c.down

-- the first i crossings are at `at` or left of it
abbrev pub Reached : List Crossing → ℕ → ℕ → ℕ → Type 0
Reached cs i width at = (j : ℕ) (d : Crossing) → j < i → min (get_or cs j d).column width ≤ at

-- the spans hold what they held, and the pixels of the row left of `at` that are inside
abbrev pub Content : List Span → List Span → Bool → ℕ → ℕ → ℕ → List Crossing → Type 0
Content old now odd row width at cs = (x y : ℕ) → x < width → is_in now x y ≡ (is_in old x y || (nat_eq row y && nat_lt x at && crossed odd cs x))

pub count_same : {A : Type 0} (p q : A → Bool) (xs : List A) → ((k : ℕ) (d : A) → k < length xs → p (get_or xs k d) ≡ q (get_or xs k d)) → count_by p xs ≡ count_by q xs
count_same p q [] h = refl
count_same {A} p q (x ∷ xs) h =
    let here : p x ≡ q x = h 0 x (omega arith) in
    let here' : one_if (p x) ≡ one_if (q x) = ap one_if here in
    let rest : count_by p xs ≡ count_by q xs = count_same p q xs (λ k d i. h (suc k) d (omega arith)) in
    count_cons p x xs ∙ (let e : one_if (p x) + count_by p xs ≡ one_if (q x) + count_by q xs = omega (arith, here', rest) in e) ∙ sym (count_cons q x xs)

pub count_none : {A : Type 0} (p : A → Bool) (xs : List A) → ((k : ℕ) (d : A) → k < length xs → p (get_or xs k d) ≡ false) → count_by p xs ≡ 0
count_none p [] h = refl
count_none {A} p (x ∷ xs) h =
    let here : one_if (p x) ≡ 0 = ap one_if (h 0 x (omega arith)) in
    let rest : count_by p xs ≡ 0 = count_none p xs (λ k d i. h (suc k) d (omega arith)) in
    count_cons p x xs ∙ (let e : one_if (p x) + count_by p xs ≡ 0 = omega (arith, here, rest) in e)

and_false : (b : Bool) → (b && false) ≡ false
and_false true = refl
and_false false = refl

and_true : (b : Bool) → (b && true) ≡ b
and_true true = refl
and_true false = refl

-- at a column between two crossings those before it count, and no others
pub counts_between : (down : Bool) (cs : List Crossing) (i x : ℕ) → ((j : ℕ) (d : Crossing) → j < i → (get_or cs j d).column ≤ x) → ((j : ℕ) (d : Crossing) → i ≤ j → j < length cs → x < (get_or cs j d).column) → count_by (crosses down x) cs ≡ count_by (going down) (take i cs)
counts_between down cs i x before after =
    let front : count_by (crosses down x) (take i cs) ≡ count_by (going down) (take i cs) =
    count_same (crosses down x) (going down) (take i cs) (λ k d h.
    let near : k < min i (length cs) = rw (← length-take i cs) h in
    let small : k < i = omega arith in
    let e : get_or (take i cs) k d ≡ get_or cs k d = get_or-take i cs k d small in
    ap (λ (c : Crossing). crosses down x c) e ∙ ap (λ t. going down (get_or cs k d) && t) (le-leb (get_or cs k d).column x (before k d small)) ∙ and_true (going down (get_or cs k d)) ∙ ap (λ (c : Crossing). going down c) (sym e)) in
    let back : count_by (crosses down x) (drop i cs) ≡ 0 =
    count_none (crosses down x) (drop i cs) (λ k d h.
    let near : k < length cs - i = rw (← length-drop i cs) h in
    let e : get_or (drop i cs) k d ≡ get_or cs (i + k) d = get_or-drop i cs k d in
    ap (λ (c : Crossing). crosses down x c) e ∙ ap (λ t. going down (get_or cs (i + k) d) && t) (lt-leb (get_or cs (i + k) d).column x (after (i + k) d (omega arith) (omega arith))) ∙ and_false (going down (get_or cs (i + k) d))) in
    let both : count_by (crosses down x) (take i cs) + count_by (crosses down x) (drop i cs) ≡ count_by (crosses down x) cs = sum_by-take-drop (λ c. one_if (crosses down x c)) cs i in
    omega (arith, front, back, both)

pub within_between : (odd : Bool) (cs : List Crossing) (i x width at here downs ups : ℕ) → Reached cs i width at → at ≤ x → x < width → x < here → ((j : ℕ) (d : Crossing) → i ≤ j → j < length cs → here ≤ (get_or cs j d).column) → downs ≡ count_by (going true) (take i cs) → ups ≡ count_by (going false) (take i cs) → crossed odd cs x ≡ is_inside odd downs ups
within_between odd cs i x width at here downs ups reached p q r after d u =
    let before : (j : ℕ) (d : Crossing) → j < i → (get_or cs j d).column ≤ x = λ j d k. let m : min (get_or cs j d).column width ≤ at = reached j d k in omega arith in
    let later : (j : ℕ) (d : Crossing) → i ≤ j → j < length cs → x < (get_or cs j d).column = λ j d k l. let m : here ≤ (get_or cs j d).column = after j d k l in omega arith in
    ap (λ n. is_inside odd n (count_by (crosses false x) cs)) (counts_between true cs i x before later ∙ sym d)
    ∙ ap (λ n. is_inside odd downs n) (counts_between false cs i x before later ∙ sym u)

-- what a gap adds
gap_left : (o e w g : Bool) → ((o || (e && true && w)) || (e && false && g)) ≡ (o || (e && true && w))
gap_left true e w g = refl
gap_left false true true g = refl
gap_left false true false g = refl
gap_left false false w g = refl

gap_here : (o e w g : Bool) → w ≡ g → ((o || (e && false && w)) || (e && true && g)) ≡ (o || (e && true && w))
gap_here true e w g h = refl
gap_here false true w g h = sym h
gap_here false false w g h = refl

gap_right : (o e w g : Bool) → ((o || (e && false && w)) || (e && false && g)) ≡ (o || (e && false && w))
gap_right true e w g = refl
gap_right false true w g = refl
gap_right false false w g = refl

-- a gap from `at` to `here`
pub content_more : (old now next : List Span) (odd : Bool) (row width at here : ℕ) (cs : List Crossing) (inside : Bool) → Content old now odd row width at cs → ((x y : ℕ) → is_in next x y ≡ (is_in now x y || (nat_eq row y && (nat_le at x && nat_lt x here) && inside))) → ((x : ℕ) → at ≤ x → x < here → x < width → crossed odd cs x ≡ inside) → Content old next odd row width (max at here) cs
content_more old now next odd row width at here cs inside was adds same = λ x y h.
    let o = is_in old x y in
    let e = nat_eq row y in
    let w = crossed odd cs x in
    adds x y ∙ ap (λ b. b || (e && (nat_le at x && nat_lt x here) && inside)) (was x y h)
    ∙ elim (cases_lt x at) [
      | inl i ↦
          ap (λ t. (o || (e && t && w)) || (e && (nat_le at x && nat_lt x here) && inside)) (lt-ltb x at i)
          ∙ ap (λ t. (o || (e && true && w)) || (e && t && inside)) (below_range at here x i)
          ∙ gap_left o e w inside
          ∙ ap (λ t. o || (e && t && w)) (sym (lt-ltb x (max at here) (omega arith)))
      | inr i ↦
          ap (λ t. (o || (e && t && w)) || (e && (nat_le at x && nat_lt x here) && inside)) (le-ltb x at i)
          ∙ elim (cases_lt x here) [
            | inl j ↦ ap (λ t. (o || (e && false && w)) || (e && t && inside)) (in_range at here x i j) ∙ gap_here o e w inside (same x i j h) ∙ ap (λ t. o || (e && t && w)) (sym (lt-ltb x (max at here) (omega arith)))
            | inr j ↦ ap (λ t. (o || (e && false && w)) || (e && t && inside)) (above_range at here x j) ∙ gap_right o e w inside ∙ ap (λ t. o || (e && t && w)) (sym (le-ltb x (max at here) (omega arith)))
          ]
    ]

nothing : (o e w : Bool) → o ≡ (o || (e && false && w))
nothing true e w = refl
nothing false true w = refl
nothing false false w = refl

pub content_none : (old : List Span) (odd : Bool) (row width : ℕ) (cs : List Crossing) → Content old old odd row width 0 cs
content_none old odd row width cs = λ x y h. nothing (is_in old x y) (nat_eq row y) (crossed odd cs x) ∙ ap (λ t. is_in old x y || (nat_eq row y && t && crossed odd cs x)) (sym (le-ltb x 0 (omega arith)))

pub content_all : (old now : List Span) (odd : Bool) (row width at : ℕ) (cs : List Crossing) → width ≤ at → Content old now odd row width at cs → (x y : ℕ) → x < width → is_in now x y ≡ (is_in old x y || (nat_eq row y && crossed odd cs x))
content_all old now odd row width at cs far h x y i = h x y i ∙ ap (λ b. is_in old x y || b) (ap (λ t. nat_eq row y && t && crossed odd cs x) (lt-ltb x at (omega arith)) ∙ ap (λ t. t && crossed odd cs x) (and_true (nat_eq row y)))

pub reached_more : (cs : List Crossing) (i width at here : ℕ) (d : Crossing) → i < length cs → here ≡ min (get_or cs i d).column width → Reached cs i width at → Reached cs (i + 1) width (max at here)
reached_more cs i width at here d h e was = λ j f k.
    elim (cases_lt j i) [
      | inl m ↦ (let a : min (get_or cs j f).column width ≤ at = was j f m in omega arith)
      | inr m ↦ (let same : j ≡ i = omega arith in
          let c : get_or cs j f ≡ get_or cs i d = ap (λ n. get_or cs n f) same ∙ get_or_default cs i f d h in
          let col : (get_or cs j f).column ≡ (get_or cs i d).column = ap (λ (c : Crossing). c.column) c in
          omega arith)
    ]

pub counted_more : (down : Bool) (cs : List Crossing) (i : ℕ) (d : Crossing) (n m : ℕ) → i < length cs → n ≡ count_by (going down) (take i cs) → m ≡ n + one_if (going down (get_or cs i d)) → m ≡ count_by (going down) (take (i + 1) cs)
counted_more down cs i d n m h was is = let e : count_by (going down) (take (i + 1) cs) ≡ count_by (going down) (take i cs) + one_if (going down (get_or cs i d)) = sum_by_more (λ c. one_if (going down c)) cs i d h in omega (arith, was, is, e)

pub small : (b : Bool) → one_if b ≤ 1
small true = omega arith
small false = omega arith

-- a truth value as a number
pub as_one : (b : Bool) → bool_byte b ≡ one_if b
as_one true = refl
as_one false = refl
