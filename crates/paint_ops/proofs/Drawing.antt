-- One rectangle after another, and one number after another.
use Rattle.std.proofs.Common.{◌≡◌, ℕ, zero, suc, ◌+◌, ◌*◌, ◌/◌, ◌<◌, ◌≤◌, Bool, true, false, cond, List, [], ◌∷◌, ◌++◌, length, slice_get, drop, Some, Result, Ok, Err, refl, ap, sym, ◌∙◌, subst, arith}
use Rattle.ps_names.specs.declared.error_name.ErrorName.{ErrorName}
use Rattle.ps_objects.specs.declared.object.Object.{Object}
use Rattle.ps_objects.specs.declared.refusal.Refusal.{Refusal}
use Rattle.ps_shapes.specs.declared.numbers.Matrix.{Matrix}
use Rattle.ps_shapes.specs.declared.numbers.Real.{Real}
use Rattle.ps_shapes.specs.declared.path.Segment.{Segment}
use Rattle.ps_shapes.specs.declared.path.Segment.TheVariants.{Move, Line, Close}
use Rattle.ps_kinds.specs.declared.state.State.{State}
use Rattle.ps_meaning.specs.Answer.{Log}
use Rattle.ps_operator.specs.Owes.{Does}
use Rattle.ps_operator.specs.Registers.{ops}
use Rattle.ps_operator.proofs.LookSteps.{drop_at_get}
use Rattle.paint_ops.specs.declared.rectangles.Rectangle.{Rectangle}
use Rattle.paint_ops.specs.declared.rectangles.Corners.{Corners}
use Rattle.paint_ops.specs.Rectangles.{going_on, corners_of, outline, drawn_behind, real_in, reals_behind, fills_one, fills_array, is_array_next, rectfill}

-- ---- one rectangle

-- a path that was added to isn't empty
pub has_begun : (path new : List Segment) (segment : Segment) → new ≡ path ++ segment ∷ [] → new ≡ [] → ⊥
has_begun [] new segment e h = cc
has_begun (s ∷ path) new segment e h = cc

pub is_outlined : (path a b c d e : List Segment) (k : Corners) → a ≡ path ++ Move k.first ∷ [] → b ≡ a ++ Line k.second ∷ [] → c ≡ b ++ Line k.third ∷ [] → d ≡ c ++ Line k.fourth ∷ [] → e ≡ d ++ Close ∷ [] → e ≡ path ++ outline k
is_outlined path a b c d e k ea eb ec ed ee =
    ee
    ∙ ap (λ (p : List Segment). p ++ Close ∷ []) (ed
    ∙ ap (λ (p : List Segment). p ++ Line k.fourth ∷ []) (ec
    ∙ ap (λ (p : List Segment). p ++ Line k.third ∷ []) (eb
    ∙ ap (λ (p : List Segment). p ++ Line k.second ∷ []) ea)))
    ∙ all path
  where
    all : (p : List Segment) → ((((p ++ Move k.first ∷ []) ++ Line k.second ∷ []) ++ Line k.third ∷ []) ++ Line k.fourth ∷ []) ++ Close ∷ [] ≡ p ++ outline k
    all [] = refl
    all (s ∷ p) = ap (λ (q : List Segment). s ∷ q) (all p)

-- ---- the rectangles of numbers

-- four numbers from a place on
four_at : (ns : List Real) (i : ℕ) (r : Rectangle) → slice_get ns i ≡ Some r.x → slice_get ns (i + 1) ≡ Some r.y → slice_get ns (i + 2) ≡ Some r.width → slice_get ns (i + 3) ≡ Some r.height
    → drop i ns ≡ r.x ∷ r.y ∷ r.width ∷ r.height ∷ drop (i + 4) ns
four_at ns i r ex ey ew eh =
    drop_at_get ns i r.x ex
    ∙ ap (λ (l : List Real). r.x ∷ l) (drop_at_get ns (i + 1) r.y ey
    ∙ ap (λ (l : List Real). r.y ∷ l) (at2
    ∙ ap (λ (l : List Real). r.width ∷ l) at3))
  where
    two : i + 1 + 1 ≡ i + 2
    two = omega arith

    three : i + 2 + 1 ≡ i + 3
    three = omega arith

    four : i + 3 + 1 ≡ i + 4
    four = omega arith

    at2 : drop (i + 1 + 1) ns ≡ r.width ∷ drop (i + 3) ns
    at2 = ap (λ n. drop n ns) two ∙ drop_at_get ns (i + 2) r.width ew ∙ ap (λ n. r.width ∷ drop n ns) three

    at3 : drop (i + 3) ns ≡ r.height ∷ drop (i + 4) ns
    at3 = drop_at_get ns (i + 3) r.height eh ∙ ap (λ n. r.height ∷ drop n ns) four

module _ (m : Matrix) (path : List Segment) (ns : List Real) (n : ℕ) (r : Rectangle)
    (ex : slice_get ns (4 * n) ≡ Some r.x) (ey : slice_get ns (4 * n + 1) ≡ Some r.y) (ew : slice_get ns (4 * n + 2) ≡ Some r.width) (eh : slice_get ns (4 * n + 3) ≡ Some r.height) where
  drawn_at : (c : Result Corners ErrorName) → c ≡ corners_of m r → drawn_behind m path (drop (4 * n) ns) ≡ going_on c (λ k. drawn_behind m (path ++ outline k) (drop (4 * (n + 1)) ns))
  drawn_at c e =
      ap (drawn_behind m path) (four_at ns (4 * n) r ex ey ew eh)
      ∙ ap (λ (c : Result Corners ErrorName). going_on c (λ k. drawn_behind m (path ++ outline k) (drop (4 * n + 4) ns))) (sym e)
      ∙ ap (λ i. going_on c (λ k. drawn_behind m (path ++ outline k) (drop i ns))) next
    where
      next : 4 * n + 4 ≡ 4 * (n + 1)
      next = omega arith

  pub rectangle_drawn : (k : Corners) (new : List Segment) → Ok k ≡ corners_of m r → new ≡ path ++ outline k → drawn_behind m path (drop (4 * n) ns) ≡ drawn_behind m new (drop (4 * (n + 1)) ns)
  rectangle_drawn k new e f = drawn_at (Ok k) e ∙ ap (λ (p : List Segment). drawn_behind m p (drop (4 * (n + 1)) ns)) (sym f)

  pub rectangle_refused : (error : ErrorName) → Err error ≡ corners_of m r → drawn_behind m path (drop (4 * n) ns) ≡ drawn_behind m [] ns → drawn_behind m [] ns ≡ Err error
  rectangle_refused error e p = sym p ∙ drawn_at (Err error) e

length_left : (ns : List Real) (i : ℕ) → length ns < i + 4 → length (drop i ns) < 4
length_left ns zero h = omega (arith, h)
length_left [] (suc i) h = omega arith
length_left (x ∷ ns) (suc i) h = length_left ns i (omega (arith, h))

few_drawn : (m : Matrix) (path : List Segment) (ns : List Real) → length ns < 4 → drawn_behind m path ns ≡ Ok path
few_drawn m path [] h = refl
few_drawn m path (x ∷ []) h = refl
few_drawn m path (x ∷ y ∷ []) h = refl
few_drawn m path (x ∷ y ∷ w ∷ []) h = refl
few_drawn m path (x ∷ y ∷ w ∷ z ∷ ns) h = absurd (omega (arith, h))

pub rectangles_drawn : (m : Matrix) (path : List Segment) (ns : List Real) (n : ℕ) → length ns / 4 ≤ n → drawn_behind m path (drop (4 * n) ns) ≡ Ok path
rectangles_drawn m path ns n h = few_drawn m path (drop (4 * n) ns) (length_left ns (4 * n) (omega (arith, h)))

-- ---- numbers

module _ (seen : List Real) (xs : List Object) (i : ℕ) (x : Object) (here : slice_get xs i ≡ Some x) where
  reals_at : (r : Result Real ErrorName) → r ≡ real_in x.kind → reals_behind seen (drop i xs) ≡ going_on r (λ r. reals_behind (seen ++ r ∷ []) (drop (i + 1) xs))
  reals_at r e = ap (reals_behind seen) (drop_at_get xs i x here) ∙ ap (λ (r : Result Real ErrorName). going_on r (λ r. reals_behind (seen ++ r ∷ []) (drop (i + 1) xs))) (sym e)

  pub real_read : (r : Real) → Ok r ≡ real_in x.kind → reals_behind seen (drop i xs) ≡ reals_behind (seen ++ r ∷ []) (drop (i + 1) xs)
  real_read r e = reals_at (Ok r) e

  pub real_refused : (error : ErrorName) → Err error ≡ real_in x.kind → reals_behind seen (drop i xs) ≡ reals_behind [] xs → reals_behind [] xs ≡ Err error
  real_refused error e p = sym p ∙ reals_at (Err error) e

all_dropped : {A : Type 0} (xs : List A) (i : ℕ) → length xs ≤ i → drop i xs ≡ []
all_dropped [] zero h = refl
all_dropped [] (suc i) h = refl
all_dropped (x ∷ xs) zero h = absurd (omega (arith, h))
all_dropped (x ∷ xs) (suc i) h = all_dropped xs i (omega (arith, h))

pub reals_read : (seen : List Real) (xs : List Object) (i : ℕ) → length xs ≤ i → reals_behind seen (drop i xs) ≡ Ok seen
reals_read seen xs i h = ap (reals_behind seen) (all_dropped xs i h)

-- ---- the form that the newest operand tells

pub does_array : (s new : State) (old log : Log) (r : Result (Unit {0}) Refusal) → is_array_next (ops s) ≡ true → Does fills_array s old r new log → Does rectfill s old r new log
does_array s new old log r e h = subst (λ (b : Bool). Does (λ _. cond b (fills_array s) (fills_one s)) s old r new log) (sym e) h

pub does_one : (s new : State) (old log : Log) (r : Result (Unit {0}) Refusal) → is_array_next (ops s) ≡ false → Does fills_one s old r new log → Does rectfill s old r new log
does_one s new old log r e h = subst (λ (b : Bool). Does (λ _. cond b (fills_array s) (fills_one s)) s old r new log) (sym e) h
