-- A path that is walked, segment by segment and point by point.
use Rattle.std.proofs.Common.{◌≡◌, ℕ, zero, suc, ◌+◌, ◌<◌, ◌≤◌, List, [], ◌∷◌, ◌++◌, length, drop, drop-cons, get_or, refl, ap, sym, ◌∙◌, append_assoc, subst, add-one, arith, true, false, nat_le}
use Rattle.std.specs.Prelude.{IsTrue}
use Rattle.std.proofs.lemmas.Bool.{le-leb, lt-leb}
use Rattle.ps_shapes.specs.Path.{IsPath, is_move}
use Rattle.ps_shapes.specs.declared.path.DevicePoint.{DevicePoint}
use Rattle.ps_shapes.specs.declared.path.Segment.{Segment}
use Rattle.ps_shapes.specs.declared.path.Segment.TheVariants.{Move, Line, Curve, Close}
use Rattle.ps_shapes.specs.declared.polygon.Point.{Point}
use Rattle.path_flat.specs.declared.flattening.Pen.{Pen}
use Rattle.path_flat.specs.declared.tracing.Tracer.{Tracer}
use Rattle.path_flat.specs.Limits.{flat_points, flat_points_of}
use Rattle.path_flat.specs.Curves.{curve_point, pixel_point}
use Rattle.path_flat.specs.Flattening.{curve_lines, pen_after, drawn, drawn_from}
use Rattle.path_flat.specs.Subpaths.{curve_points, traced, traced_all}

drop_more : {A : Type 0} (xs : List A) (i : ℕ) (x : A) → i < length xs → x ≡ get_or xs i x → drop i xs ≡ x ∷ drop (suc i) xs
drop_more xs i x h e = drop-cons xs i x h ∙ ap (λ y. y ∷ drop (suc i) xs) (sym e)

-- what the rest of the segments counts
pub points_step : (xs : List Segment) (i : ℕ) (x : Segment) → i < length xs → x ≡ get_or xs i x → flat_points (drop i xs) ≡ flat_points_of x + flat_points (drop (i + 1) xs)
points_step xs i x h e = rw add-one (ap flat_points (drop_more xs i x h e))

-- the pen's lines on the rest of the segments
pub drawn_step : (pen : Pen) (xs : List Segment) (i : ℕ) (x : Segment) → i < length xs → x ≡ get_or xs i x → drawn_from pen (drop i xs) ≡ drawn pen x ++ drawn_from (pen_after pen x) (drop (i + 1) xs)
drawn_step pen xs i x h e = rw add-one (ap (drawn_from pen) (drop_more xs i x h e))

-- a tracer after the rest of the segments
pub traced_step : (t : Tracer) (xs : List Segment) (i : ℕ) (x : Segment) → i < length xs → x ≡ get_or xs i x → traced_all t (drop i xs) ≡ traced_all (traced t x) (drop (i + 1) xs)
traced_step t xs i x h e = rw add-one (ap (traced_all t) (drop_more xs i x h e))

dropped_all : {A : Type 0} (xs : List A) (i : ℕ) → length xs ≤ i → drop i xs ≡ []
dropped_all [] zero h = refl
dropped_all [] (suc i) h = refl
dropped_all (x ∷ xs) zero h = absurd (omega arith)
dropped_all (x ∷ xs) (suc i) h = dropped_all xs i (omega arith)

pub points_end : (xs : List Segment) (i : ℕ) → length xs ≤ i → flat_points (drop i xs) ≡ 0
points_end xs i h = ap flat_points (dropped_all xs i h)

pub drawn_end : (pen : Pen) (xs : List Segment) (i : ℕ) → length xs ≤ i → drawn_from pen (drop i xs) ≡ []
drawn_end pen xs i h = ap (drawn_from pen) (dropped_all xs i h)

pub traced_end : (t : Tracer) (xs : List Segment) (i : ℕ) → length xs ≤ i → traced_all t (drop i xs) ≡ t
traced_end t xs i h = ap (traced_all t) (dropped_all xs i h)

-- one more line of a curve
pub lines_none : (a b c d : DevicePoint) → curve_lines 0 a b c d ≡ []
unfolding curve_lines
lines_none a b c d = refl

pub lines_step : (n : ℕ) (a b c d : DevicePoint) → curve_lines (n + 1) a b c d ≡ curve_lines n a b c d ++ Line (curve_point (n + 1) a b c d) ∷ []
unfolding curve_lines
lines_step n a b c d = ap (λ (m : ℕ). curve_lines m a b c d) (add-one n)

pub points_none : (a b c d : DevicePoint) → curve_points 0 a b c d ≡ []
unfolding curve_points
points_none a b c d = refl

pub curve_step : (n : ℕ) (a b c d : DevicePoint) → curve_points (n + 1) a b c d ≡ curve_points n a b c d ++ pixel_point (curve_point (n + 1) a b c d) ∷ []
unfolding curve_points
curve_step n a b c d = ap (λ (m : ℕ). curve_points m a b c d) (add-one n)

not_true : IsTrue false → ⊥
not_true h = cc

-- a path that has begun, or begins here, has begun
pub still_begun : (path : List Segment) (pen : Pen) (x : Segment) → (path ≡ [] → IsTrue (is_move x)) → path ++ drawn pen x ≡ [] → ⊥
still_begun [] pen (Move p) h e = cc
still_begun [] pen (Line p) h e = not_true (h refl)
still_begun [] pen (Curve p q r) h e = not_true (h refl)
still_begun [] pen Close h e = not_true (h refl)
still_begun (y ∷ ys) pen x h e = cc

-- a path begins with a move
pub first_is_move : (xs : List Segment) (x : Segment) → IsPath xs → 0 < length xs → x ≡ get_or xs 0 x → IsTrue (is_move x)
first_is_move [] x h k e = absurd (omega arith)
first_is_move (y ∷ ys) x h k e = subst (λ (s : Segment). IsTrue (is_move s)) (sym e) h

-- a list that isn't empty stays so
pub is_begun : (path : List Segment) (x : Segment) → (path ≡ [] → ⊥) → path ++ x ∷ [] ≡ [] → ⊥
is_begun [] x h e = h refl
is_begun (y ∷ ys) x h e = cc

-- a count and its limit
pub above_limit : (n : ℕ) → 100000 < n → false ≡ nat_le n 100000
above_limit n h = sym (lt-leb n 100000 h)

pub within_limit : (n : ℕ) → n ≤ 100000 → true ≡ nat_le n 100000
within_limit n h = sym (le-leb n 100000 h)

-- a path that was drawn to the segment i, and what draws the next
pub begins_there : (path xs : List Segment) (i : ℕ) (x : Segment) → IsPath xs → i < length xs → x ≡ get_or xs i x → (0 < i → path ≡ [] → ⊥) → path ≡ [] → IsTrue (is_move x)
begins_there path xs zero x h k e begun none = first_is_move xs x h k e
begins_there path xs (suc i) x h k e begun none = absurd (begun (omega arith) none)

nothing_more : {A : Type 0} (xs : List A) → xs ≡ xs ++ []
nothing_more [] = refl
nothing_more (x ∷ xs) = ap (λ ys. x ∷ ys) (nothing_more xs)

pub front_empty : {A : Type 0} (xs ys : List A) → xs ++ ys ≡ [] → xs ≡ []
front_empty [] ys e = refl
front_empty (x ∷ xs) ys e = absurd cc

-- the points of a curve, one after another
pub points_begin : (xs : List Point) (a b c d : DevicePoint) → xs ≡ xs ++ curve_points 0 a b c d
unfolding curve_points
points_begin xs a b c d = nothing_more xs

pub points_more : (xs ys zs : List Point) (n : ℕ) (a b c d q : DevicePoint) (p : Point) → ys ≡ xs ++ curve_points n a b c d → zs ≡ ys ++ p ∷ []
    → p ≡ pixel_point q → q ≡ curve_point (n + 1) a b c d → zs ≡ xs ++ curve_points (n + 1) a b c d
points_more xs ys zs n a b c d q p e f g h =
    f ∙ ap (λ (l : List Point). l ++ p ∷ []) e ∙ append_assoc xs (curve_points n a b c d) (p ∷ [])
    ∙ ap (λ (l : List Point). xs ++ l) (ap (λ (r : Point). curve_points n a b c d ++ r ∷ []) (g ∙ ap pixel_point h) ∙ sym (curve_step n a b c d))

-- the lines of a curve, one after another
pub lines_begin : (xs : List Segment) (a b c d : DevicePoint) → xs ≡ xs ++ curve_lines 0 a b c d
unfolding curve_lines
lines_begin xs a b c d = nothing_more xs

pub lines_more : (xs ys zs : List Segment) (n : ℕ) (a b c d q : DevicePoint) → ys ≡ xs ++ curve_lines n a b c d → zs ≡ ys ++ Line q ∷ []
    → q ≡ curve_point (n + 1) a b c d → zs ≡ xs ++ curve_lines (n + 1) a b c d
lines_more xs ys zs n a b c d q e f h =
    f ∙ ap (λ (l : List Segment). l ++ Line q ∷ []) e ∙ append_assoc xs (curve_lines n a b c d) (Line q ∷ [])
    ∙ ap (λ (l : List Segment). xs ++ l) (ap (λ (r : DevicePoint). curve_lines n a b c d ++ Line r ∷ []) h ∙ sym (lines_step n a b c d))
