-- Each operator keeps a state that fits: its tree again, with what fits beside each end.
use Rattle.std.proofs.Common.{◌≡◌, ℕ, suc, ◌+◌, ◌≤◌, Bool, true, false, cond, List, ◌∷◌, drop, refl, sym, ◌∙◌, subst, arith}
use Rattle.ps_shapes.specs.declared.numbers.Matrix.{Matrix}
use Rattle.ps_shapes.specs.declared.numbers.Real.{Real}
use Rattle.ps_fixed.specs.Matrices.{matrix_product, inverse_of}
use Rattle.ps_objects.specs.Operands.{needed, room_for, object_at, array_at, readable_at, writable_at}
use Rattle.ps_objects.specs.declared.object.Object.{Object}
use Rattle.ps_objects.specs.declared.objects.Interval.{Interval}
use Rattle.ps_objects.specs.declared.place.Shape.{Shape}
use Rattle.ps_objects.specs.declared.place.Shape.TheVariants as shape
use Rattle.ps_kinds.specs.declared.graphics.GState.{GState}
use Rattle.ps_kinds.specs.declared.state.State.{State}
use Rattle.ps_memory.specs.Tree.{done}
use Rattle.ps_meaning.specs.Answer.{names_taken}
use Rattle.ps_meaning.specs.Fits.{Shapes}
use Rattle.ps_meaning.specs.Ready.{Fits}
use Rattle.ps_meaning.specs.Registers.{FitsState}
use Rattle.ps_meaning.specs.Sound.{Size, World, made}
use Rattle.ps_operator.specs.Arrays.{items_of}
use Rattle.ps_operator.specs.Budgets.{unit_room}
use Rattle.ps_operator.specs.Lawful.{HasItems, Leaves, Keeps, IsLawful}
use Rattle.ps_operator.specs.Making.{next_cell}
use Rattle.ps_operator.specs.Operators.{AreLawful}
use Rattle.ps_operator.specs.Registers.{ops, with_ops, spent, quiet}
use Rattle.ps_operator.specs.Tree.{Ask}
use Rattle.ps_operator.proofs.Ending.{registers_keeps}
use Rattle.ps_operator.proofs.Fitting.{Fit, drop_fits, object_fits, array_fits}
use Rattle.ps_operator.proofs.Growing.{new_here, room_kept, made_leaves, new_fits}
use Rattle.ps_operator.proofs.Lawful.{read_keeps, leaves_kept, leaves_keeps}
use Rattle.ps_operator.proofs.Running.{◌▹◌, all_lawful}
use Rattle.ps_operator.proofs.Seeking.{Any, Seeks, found_seeks, read_seeks, then_seeks, seeking_keeps}
use Rattle.ps_operator.proofs.StoreSteps.{items_take_none}
use Rattle.ps_operator.proofs.Storing.{AreShared, items_change, whole_lies}
use Rattle.real_operands.specs.Points.{point_at}
use Rattle.real_operands.specs.Reals.{defined}
use Rattle.mat_ops.specs.Matrices.{six, matrix_of, matrix_in, item, items, matrix_stores, identity}
use Rattle.mat_ops.specs.Current.{current, default_of, before_current, with_matrix, becomes, setmatrix, initmatrix, concat}
use Rattle.mat_ops.specs.Arrays.{next_six, array_of, matrix, fills, identmatrix, defaultmatrix, currentmatrix, concatmatrix, invertmatrix}
use Rattle.mat_ops.specs.Changing.{is_array_at, numbers, motion_at, moves, fills_with, changes}
use Rattle.mat_ops.specs.Carrying.{carried, leaves_point, by_current, by_array, carries}
use Rattle.mat_ops.specs.Operators.{operators, run}
use Rattle.mat_ops.specs.declared.carrying.Way.{Way}
use Rattle.mat_ops.specs.declared.carrying.Way.TheVariants as way
use Rattle.mat_ops.specs.declared.changing.Motion.{Motion}
use Rattle.mat_ops.specs.declared.changing.Motion.TheVariants as motion
use Rattle.mat_ops.proofs.Filling.{six_items}
use Rattle.mat_ops.proofs.Looking.{items_seek}

-- ---- the current matrix

-- the size of a state's page
abbrev page_of : GState → Size
page_of g = record { width = g.wide; height = g.high }

-- with another matrix, a state fits where it fitted, and its page has the same size
record Stays (K : Shapes) (g h : GState) : Type 0 where
  fits : FitsState K h
  page : page_of h ≡ page_of g

matrix_stays : (K : Shapes) (g : GState) → FitsState K g → (m : Matrix) → Stays K g (with_matrix g m)
unfolding with_matrix
matrix_stays K g f m = record { fits = record { dash = f.dash; spot = f.spot; transfer = f.transfer; halftone = f.halftone; font = f.font }; page = refl }

becomes_keeps : {text : List ℕ} {s : State} {W : World} → Fits text W s → (n : ℕ) (m : Matrix) → Keeps text 4 s.frames (becomes s n m) s W
becomes_keeps {s = s} {W = W} f n m =
    let r = f.state.registers in
    let h = matrix_stays W.shapes s.regs.state r.state m in
    registers_keeps f (record s.regs { operands = drop n (ops s); state = with_matrix s.regs.state m })
    (record { operands = drop_fits W.shapes n (ops s) r.operands; dicts = r.dicts; bottom = r.bottom; state = h.fits; states = r.states; marks = r.marks; size = r.size ∙ sym h.page })

matrix_seeks : {W : World} (a : Interval) → HasItems W.shapes a → Seeks W Any (matrix_in a)
matrix_seeks a h = then_seeks Any (items_of a) (items_seek h) (λ xs _. read_seeks (matrix_of xs) (λ m _. found_seeks Any m tt))

setmatrix_keeps : IsLawful setmatrix
setmatrix_keeps text s W f =
    let o : Fit W.shapes (ops s) = f.state.registers.operands in
    read_keeps (needed 1 (ops s)) (λ _ _.
    read_keeps (array_at 0 (ops s)) (λ a e.
    read_keeps (readable_at 0 (ops s)) (λ _ _.
    read_keeps (six a) (λ _ _.
    seeking_keeps Any (matrix_in a) (matrix_seeks a (array_fits W.shapes (ops s) 0 a o e)) (λ m _.
    becomes_keeps f 1 m)))))

initmatrix_keeps : IsLawful initmatrix
initmatrix_keeps text s W f = becomes_keeps f 0 (default_of s)

concat_keeps : IsLawful concat
concat_keeps text s W f =
    let o : Fit W.shapes (ops s) = f.state.registers.operands in
    read_keeps (needed 1 (ops s)) (λ _ _.
    read_keeps (array_at 0 (ops s)) (λ a e.
    read_keeps (readable_at 0 (ops s)) (λ _ _.
    read_keeps (six a) (λ _ _.
    seeking_keeps Any (matrix_in a) (matrix_seeks a (array_fits W.shapes (ops s) 0 a o e)) (λ m _.
    read_keeps (before_current m s) (λ p _.
    becomes_keeps f 1 p))))))

-- ---- arrays that are filled

-- numbers fit each memory, and may lie in each cell
items_fit : (K : Shapes) (m : Matrix) → Fit K (items m)
items_fit K m = (tt, (tt, (tt, (tt, (tt, (tt, tt))))))

items_shared : (a : Interval) (m : Matrix) → AreShared a (items m)
items_shared a m = ((λ _. refl), ((λ _. refl), ((λ _. refl), ((λ _. refl), ((λ _. refl), ((λ _. refl), tt))))))

within_six : (n : ℕ) → n ≡ 6 → 0 + 6 ≤ n
within_six n e = omega (arith, e)

filled_keeps : {text : List ℕ} {s : State} {W : World} → Fits text W s → (a : Interval) (m : Matrix) (xs : List Object) → HasItems W.shapes a → a.len ≡ 6 → Fit W.shapes xs
    → Keeps text 4 s.frames (done (matrix_stores a m) (quiet (with_ops s xs))) s W
filled_keeps {text = text} {s = s} {W = W} f a m xs h six g =
    let e = quiet (with_ops s xs) in
    record {
      lawful = items_change W s.count (Leaves text 4 s.frames s (names_taken (matrix_stores a m)) e) a h 0 (items m)
          (within_six a.len six) (items_fit W.shapes m) (items_shared a m)
          (subst (λ k. Leaves text 4 s.frames s k e W) (sym (items_take_none a 0 (items m))) (leaves_kept text 4 s W f xs g));
    }

fills_keeps : (m : Matrix) {text : List ℕ} {s : State} {W : World} → Fits text W s → Keeps text 4 s.frames (fills m s) s W
fills_keeps m {s = s} {W = W} f =
    let o : Fit W.shapes (ops s) = f.state.registers.operands in
    read_keeps (needed 1 (ops s)) (λ _ _.
    read_keeps (array_at 0 (ops s)) (λ a e.
    read_keeps (writable_at 0 (ops s)) (λ _ _.
    read_keeps (six a) (λ _ q.
    filled_keeps f a m (ops s) (array_fits W.shapes (ops s) 0 a o e) (six_items a q) o))))

identmatrix_keeps : IsLawful identmatrix
identmatrix_keeps text s W f = fills_keeps identity f

defaultmatrix_keeps : IsLawful defaultmatrix
defaultmatrix_keeps text s W f = fills_keeps (default_of s) f

currentmatrix_keeps : IsLawful currentmatrix
currentmatrix_keeps text s W f = fills_keeps (current s) f

matrix_keeps : IsLawful matrix
matrix_keeps text s W f =
    let o : Fit W.shapes (ops s) = f.state.registers.operands in
    read_keeps (room_for 1 (ops s)) (λ _ _.
    read_keeps (unit_room s.kind s.units 6) (λ _ u.
    let c = next_cell s in
    let a : Interval = next_six s in
    let sh : Shape = shape.Array 6 in
    let V : World = made c sh W in
    let x : Object = array_of a in
    let xs : List Object = x ∷ ops s in
    let e = quiet (spent (with_ops s xs) 6) in
    let lies = whole_lies 6 (omega arith) in
    let left = made_leaves text s W f c sh xs 6 refl refl (new_fits f sh x (ops s) refl lies o) (room_kept s 6 u) in
    let here : HasItems V.shapes a = record { size = 6; stands = new_here W s.count f.state.ahead c sh (sym f.state.section) refl; within = lies } in
    record {
      lawful = (
        sym f.state.section,
        refl,
        items_change V (s.count + 1) (Leaves text 4 s.frames s (suc (names_taken (matrix_stores a identity))) e) a here 0 (items identity)
            (within_six 6 refl) (items_fit V.shapes identity) (items_shared a identity)
            (subst (λ k. Leaves text 4 s.frames s (suc k) e V) (sym (items_take_none a 0 (items identity))) left),
      );
    }))

concatmatrix_keeps : IsLawful concatmatrix
concatmatrix_keeps text s W f =
    let o : Fit W.shapes (ops s) = f.state.registers.operands in
    read_keeps (needed 3 (ops s)) (λ _ _.
    read_keeps (array_at 0 (ops s)) (λ target e.
    read_keeps (array_at 1 (ops s)) (λ second p.
    read_keeps (array_at 2 (ops s)) (λ first q.
    read_keeps (object_at 0 (ops s)) (λ x g.
    read_keeps (writable_at 0 (ops s)) (λ _ _.
    read_keeps (readable_at 1 (ops s)) (λ _ _.
    read_keeps (readable_at 2 (ops s)) (λ _ _.
    read_keeps (six target) (λ _ t.
    read_keeps (six second) (λ _ _.
    read_keeps (six first) (λ _ _.
    seeking_keeps Any (matrix_in second) (matrix_seeks second (array_fits W.shapes (ops s) 1 second o p)) (λ n _.
    seeking_keeps Any (matrix_in first) (matrix_seeks first (array_fits W.shapes (ops s) 2 first o q)) (λ m _.
    read_keeps (defined (matrix_product m n)) (λ r _.
    filled_keeps f target r (x ∷ drop 3 (ops s)) (array_fits W.shapes (ops s) 0 target o e) (six_items target t) (object_fits W.shapes (ops s) 0 x o g, drop_fits W.shapes 3 (ops s) o)))))))))))))))

invertmatrix_keeps : IsLawful invertmatrix
invertmatrix_keeps text s W f =
    let o : Fit W.shapes (ops s) = f.state.registers.operands in
    read_keeps (needed 2 (ops s)) (λ _ _.
    read_keeps (array_at 0 (ops s)) (λ target e.
    read_keeps (array_at 1 (ops s)) (λ source p.
    read_keeps (object_at 0 (ops s)) (λ x g.
    read_keeps (writable_at 0 (ops s)) (λ _ _.
    read_keeps (readable_at 1 (ops s)) (λ _ _.
    read_keeps (six target) (λ _ t.
    read_keeps (six source) (λ _ _.
    seeking_keeps Any (matrix_in source) (matrix_seeks source (array_fits W.shapes (ops s) 1 source o p)) (λ m _.
    read_keeps (defined (inverse_of m)) (λ r _.
    filled_keeps f target r (x ∷ drop 2 (ops s)) (array_fits W.shapes (ops s) 0 target o e) (six_items target t) (object_fits W.shapes (ops s) 0 x o g, drop_fits W.shapes 2 (ops s) o)))))))))))

-- ---- the newest operand tells which

either_keeps : {text : List ℕ} {s : State} {W : World} {t u : Ask} (b : Bool) → Keeps text 4 s.frames t s W → Keeps text 4 s.frames u s W → Keeps text 4 s.frames (cond b t u) s W
either_keeps true h g = h
either_keeps false h g = g

moves_keeps : (k : Motion) → IsLawful (moves k)
moves_keeps k text s W f =
    read_keeps (needed (numbers k) (ops s)) (λ _ _.
    read_keeps (motion_at k 0 (ops s)) (λ m _.
    read_keeps (before_current m s) (λ p _.
    becomes_keeps f (numbers k) p)))

fills_with_keeps : (k : Motion) → IsLawful (fills_with k)
fills_with_keeps k text s W f =
    let o : Fit W.shapes (ops s) = f.state.registers.operands in
    read_keeps (needed (numbers k + 1) (ops s)) (λ _ _.
    read_keeps (array_at 0 (ops s)) (λ a e.
    read_keeps (object_at 0 (ops s)) (λ x g.
    read_keeps (motion_at k 1 (ops s)) (λ m _.
    read_keeps (writable_at 0 (ops s)) (λ _ _.
    read_keeps (six a) (λ _ t.
    filled_keeps f a m (x ∷ drop (numbers k + 1) (ops s)) (array_fits W.shapes (ops s) 0 a o e) (six_items a t) (object_fits W.shapes (ops s) 0 x o g, drop_fits W.shapes (numbers k + 1) (ops s) o)))))))

changes_keeps : (k : Motion) → IsLawful (changes k)
changes_keeps k text s W f = either_keeps (is_array_at 0 (ops s)) (fills_with_keeps k text s W f) (moves_keeps k text s W f)

point_keeps : {text : List ℕ} {s : State} {W : World} → Fits text W s → (n : ℕ) (p : Real × Real) → Keeps text 4 s.frames (leaves_point s n p) s W
point_keeps {s = s} {W = W} f n p = leaves_keeps f (item p.1 ∷ item p.0 ∷ drop n (ops s)) (tt, (tt, drop_fits W.shapes n (ops s) f.state.registers.operands))

by_current_keeps : (w : Way) → IsLawful (by_current w)
by_current_keeps w text s W f =
    read_keeps (needed 2 (ops s)) (λ _ _.
    read_keeps (point_at 0 (ops s)) (λ p _.
    read_keeps (defined (carried w (current s) p.0 p.1)) (λ q _.
    point_keeps f 2 q)))

by_array_keeps : (w : Way) → IsLawful (by_array w)
by_array_keeps w text s W f =
    let o : Fit W.shapes (ops s) = f.state.registers.operands in
    read_keeps (needed 3 (ops s)) (λ _ _.
    read_keeps (array_at 0 (ops s)) (λ a e.
    read_keeps (point_at 1 (ops s)) (λ p _.
    read_keeps (readable_at 0 (ops s)) (λ _ _.
    read_keeps (six a) (λ _ _.
    seeking_keeps Any (matrix_in a) (matrix_seeks a (array_fits W.shapes (ops s) 0 a o e)) (λ m _.
    read_keeps (defined (carried w m p.0 p.1)) (λ q _.
    point_keeps f 3 q)))))))

carries_keeps : (w : Way) → IsLawful (carries w)
carries_keeps w text s W f = either_keeps (is_array_at 0 (ops s)) (by_array_keeps w text s W f) (by_current_keeps w text s W f)

-- ---- all of them

all_keep : AreLawful operators
all_keep =
    matrix_keeps ▹ identmatrix_keeps ▹ defaultmatrix_keeps ▹ currentmatrix_keeps ▹ setmatrix_keeps ▹ initmatrix_keeps
    ▹ changes_keeps motion.Translation ▹ changes_keeps motion.Scaling ▹ changes_keeps motion.Rotation ▹ concat_keeps
    ▹ concatmatrix_keeps ▹ invertmatrix_keeps ▹ carries_keeps way.Point ▹ carries_keeps way.Distance
    ▹ carries_keeps way.PointBack ▹ carries_keeps way.DistanceBack ▹ tt

pub run_keeps : (n : ℕ) → IsLawful (run n)
run_keeps = all_lawful operators all_keep
