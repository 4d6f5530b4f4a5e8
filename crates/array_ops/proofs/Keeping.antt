-- Each operator keeps a state that fits: its tree again, with what fits beside each look and end.
use Rattle.std.proofs.Common.{◌≡◌, ℕ, suc, pos, ◌+◌, ◌-◌, ◌≤◌, Bool, true, false, cond, List, [], ◌∷◌, ◌++◌, take, drop, length, Result, Ok, refl, sym, subst, arith}
use Rattle.ps_names.specs.declared.error_name.ErrorName.{ErrorName}
use Rattle.ps_objects.specs.Object.{whole_of}
use Rattle.ps_objects.specs.Operands.{needed, room_for, object_at, integer_at, boolean_at, array_at, readable_at, writable_at, typed}
use Rattle.ps_objects.specs.declared.cell.Cell.{Cell}
use Rattle.ps_objects.specs.declared.object.Kind.TheVariants as kind
use Rattle.ps_objects.specs.declared.object.Object.{Object}
use Rattle.ps_objects.specs.declared.objects.Interval.{Interval}
use Rattle.ps_objects.specs.declared.place.Shape.{Shape}
use Rattle.ps_objects.specs.declared.place.Shape.TheVariants as shape
use Rattle.ps_kinds.specs.declared.state.State.{State}
use Rattle.ps_meaning.specs.Answer.{names_taken}
use Rattle.ps_meaning.specs.Ready.{Fits}
use Rattle.ps_meaning.specs.Sound.{World, made}
use Rattle.ps_operator.specs.Budgets.{unit_room, storable}
use Rattle.ps_operator.specs.Lawful.{HasItems, HasBytes, Leaves, Keeps, IsLawful}
use Rattle.ps_operator.specs.Making.{next_cell}
use Rattle.ps_operator.specs.Marks.{above_mark}
use Rattle.ps_operator.specs.Numbers.{natural_of, length_of, place_in}
use Rattle.ps_operator.specs.Operators.{AreLawful}
use Rattle.ps_operator.specs.Registers.{ops, literal, with_ops, spent, quiet}
use Rattle.ps_operator.specs.Storing.{space_in, byte_stores, item_stores}
use Rattle.ps_operator.specs.Tree.{Ask}
use Rattle.ps_operator.proofs.Ending.{registers_keeps}
use Rattle.ps_operator.proofs.Fitting.{Fit, drop_fits, object_fits, array_fits, place_below}
use Rattle.ps_operator.proofs.Growing.{stays, new_here, all_grow, room_kept, made_leaves, made_keeps, new_fits}
use Rattle.ps_operator.proofs.Lawful.{read_keeps, item_keeps, bytes_keeps, leaves_kept, leaves_keeps}
use Rattle.ps_operator.proofs.Running.{◌▹◌, all_lawful}
use Rattle.ps_operator.proofs.Seeking.{seeking_keeps}
use Rattle.ps_operator.proofs.StoreSteps.{bytes_take_none, items_take_none}
use Rattle.ps_operator.proofs.Storing.{bytes_change, items_change, length_below, space_within, whole_lies}
use Rattle.array_ops.specs.Making.{array_object, array, taken, all_storable, gathers, right_bracket, packedarray, setpacking, currentpacking}
use Rattle.array_ops.specs.Members.{size_of, size_right_at, number_told, size, member_told, get, byte_of, member_put, put}
use Rattle.array_ops.specs.Intervals.{getinterval, move_of, storable_items, early_room, items_move, bytes_move, put_move, room_at, putinterval, front_room, front_left, copy_move, copy_part, more_room, copy_operands, is_integer_at, copy}
use Rattle.array_ops.specs.Parts.{count_at, part_at, interval_of, piece, over_of}
use Rattle.array_ops.specs.Spreading.{pushed_from, aload, astore}
use Rattle.array_ops.specs.Operators.{operators, run}
use Rattle.array_ops.specs.declared.intervals.Move.{Move}
use Rattle.array_ops.specs.declared.intervals.Move.TheVariants as move
use Rattle.array_ops.specs.declared.parts.Part.{Part}
use Rattle.array_ops.specs.declared.parts.Part.TheVariants as part
use Rattle.array_ops.proofs.Fitting.{FitsPart, part_fits, cut_fits, take_fits, append_fits, taken_fits, taken_within, storable_shared, taken_shared, item_there, byte_there, byte_keeps, byte_small, GoIn, storable_seeks, pushed_seeks}
use Rattle.array_ops.proofs.Gathering.{room_small}
use Rattle.array_ops.proofs.Standing.{room_within}

-- ---- new arrays

array_keeps : IsLawful array
array_keeps text s W f =
    let o : Fit W.shapes (ops s) = f.state.registers.operands in
    read_keeps (needed 1 (ops s)) (λ _ _.
    read_keeps (integer_at 0 (ops s)) (λ i _.
    read_keeps (natural_of i) (λ m _.
    read_keeps (length_of m) (λ n q.
    read_keeps (unit_room s.kind s.units n) (λ _ u.
    made_keeps f (shape.Array n) (array_object false (whole_of (next_cell s) n) ∷ drop 1 (ops s)) n
    (new_fits f (shape.Array n) (array_object false (whole_of (next_cell s) n)) (drop 1 (ops s)) refl (whole_lies n (length_below m n q)) (drop_fits W.shapes 1 (ops s) o))
    (room_kept s n u))))))

gathers_keeps : {text : List ℕ} {s : State} {W : World} → Fits text W s → (below n : ℕ) (packed : Bool) → Keeps text 4 s.frames (gathers s below n packed) s W
gathers_keeps {text = text} {s = s} {W = W} f below n packed =
    let o : Fit W.shapes (ops s) = f.state.registers.operands in
    let c : Cell = next_cell s in
    let a : Interval = whole_of c n in
    let items : List Object = taken below n (ops s) in
    read_keeps (all_storable c (take n (drop below (ops s)))) (λ _ r.
    read_keeps (unit_room s.kind s.units n) (λ _ u.
    let sh : Shape = shape.Array n in
    let V : World = made c sh W in
    let x : Object = array_object packed a in
    let xs : List Object = x ∷ drop (n + 1) (ops s) in
    let e = quiet (spent (with_ops s xs) n) in
    let lies = whole_lies n (room_small s.kind s.units n u) in
    let left = made_leaves text s W f c sh xs n refl refl (new_fits f sh x (drop (n + 1) (ops s)) refl lies (drop_fits W.shapes (n + 1) (ops s) o)) (room_kept s n u) in
    let here : HasItems V.shapes a = record { size = n; stands = new_here W s.count f.state.ahead c sh (sym f.state.section) refl; within = lies } in
    record {
      lawful = (
        sym f.state.section,
        refl,
        items_change V (s.count + 1) (Leaves text 4 s.frames s (suc (names_taken (item_stores a 0 items))) e) a here 0 items
            (taken_within below n (ops s))
            (all_grow W.shapes V.shapes (stays W s.count f.state.ahead c sh (sym f.state.section) refl) items (taken_fits W.shapes below n (ops s) o))
            (taken_shared c below n (ops s) r)
            (subst (λ k. Leaves text 4 s.frames s (suc k) e V) (sym (items_take_none a 0 items)) left),
      );
    }))

right_bracket_keeps : IsLawful right_bracket
right_bracket_keeps text s W f = read_keeps (above_mark (ops s)) (λ n _. gathers_keeps f 0 n false)

packedarray_keeps : IsLawful packedarray
packedarray_keeps text s W f =
    read_keeps (needed 1 (ops s)) (λ _ _.
    read_keeps (count_at 0 (ops s)) (λ n _.
    read_keeps (needed (n + 1) (ops s)) (λ _ _.
    gathers_keeps f 1 n true)))

-- ---- the packing mode

setpacking_keeps : IsLawful setpacking
setpacking_keeps text s W f =
    let g = f.state.registers in
    read_keeps (needed 1 (ops s)) (λ _ _.
    read_keeps (boolean_at 0 (ops s)) (λ b _.
    registers_keeps f (record s.regs { operands = drop 1 (ops s); packing = b })
    (record { operands = drop_fits W.shapes 1 (ops s) g.operands; dicts = g.dicts; bottom = g.bottom; state = g.state; states = g.states; marks = g.marks; size = g.size })))

currentpacking_keeps : IsLawful currentpacking
currentpacking_keeps text s W f =
    read_keeps (room_for 1 (ops s)) (λ _ _.
    leaves_keeps f (literal (kind.Boolean s.regs.packing) ∷ ops s) (tt, f.state.registers.operands))

-- ---- single items and bytes

size_keeps : IsLawful size
size_keeps text s W f =
    read_keeps (needed 1 (ops s)) (λ _ _.
    read_keeps (typed size_of 0 (ops s)) (λ n _.
    read_keeps (size_right_at 0 (ops s)) (λ _ _.
    read_keeps (number_told n) (λ i _.
    leaves_keeps f (literal (kind.Integer i) ∷ drop 1 (ops s)) (tt, drop_fits W.shapes 1 (ops s) f.state.registers.operands)))))

member_told_keeps : {text : List ℕ} {s : State} {W : World} → Fits text W s → (p : Part) → FitsPart W.shapes p → Keeps text 4 s.frames (member_told s p) s W
member_told_keeps {s = s} {W = W} f (part.Items a) h =
    read_keeps (integer_at 0 (ops s)) (λ i _.
    read_keeps (readable_at 1 (ops s)) (λ _ _.
    read_keeps (place_in a.len i) (λ at q.
    item_keeps at h (place_below a.len i at q) (λ x g.
    leaves_keeps f (x ∷ drop 2 (ops s)) (g, drop_fits W.shapes 2 (ops s) f.state.registers.operands)))))
member_told_keeps {s = s} {W = W} f (part.Bytes a) h =
    read_keeps (integer_at 0 (ops s)) (λ i _.
    read_keeps (readable_at 1 (ops s)) (λ _ _.
    read_keeps (place_in a.len i) (λ at q.
    byte_keeps at h (place_below a.len i at q) (λ b.
    leaves_keeps f (literal (kind.Integer (pos b)) ∷ drop 2 (ops s)) (tt, drop_fits W.shapes 2 (ops s) f.state.registers.operands)))))

get_keeps : IsLawful get
get_keeps text s W f =
    read_keeps (needed 2 (ops s)) (λ _ _.
    read_keeps (part_at 1 (ops s)) (λ p e.
    member_told_keeps f p (part_fits W.shapes (ops s) 1 p f.state.registers.operands e)))

member_put_keeps : {text : List ℕ} {s : State} {W : World} → Fits text W s → (p : Part) → FitsPart W.shapes p → Keeps text 4 s.frames (member_put s p) s W
member_put_keeps {text = text} {s = s} {W = W} f (part.Items a) h =
    let o : Fit W.shapes (ops s) = f.state.registers.operands in
    read_keeps (object_at 0 (ops s)) (λ x e.
    read_keeps (integer_at 1 (ops s)) (λ i _.
    read_keeps (writable_at 2 (ops s)) (λ _ _.
    read_keeps (storable a.cell x.kind) (λ _ r.
    read_keeps (place_in a.len i) (λ at q.
    record {
      lawful = (
        item_there W.shapes a at h (place_below a.len i at q),
        refl,
        object_fits W.shapes (ops s) 0 x o e,
        storable_shared a.cell x r,
        leaves_kept text 4 s W f (drop 3 (ops s)) (drop_fits W.shapes 3 (ops s) o),
      );
    })))))
member_put_keeps {text = text} {s = s} {W = W} f (part.Bytes a) h =
    let o : Fit W.shapes (ops s) = f.state.registers.operands in
    read_keeps (integer_at 0 (ops s)) (λ n _.
    read_keeps (integer_at 1 (ops s)) (λ i _.
    read_keeps (writable_at 2 (ops s)) (λ _ _.
    read_keeps (place_in a.len i) (λ at q.
    read_keeps (byte_of n) (λ b r.
    record {
      lawful = (
        byte_there W.shapes a at h (place_below a.len i at q),
        byte_small n b r,
        tt,
        tt,
        leaves_kept text 4 s W f (drop 3 (ops s)) (drop_fits W.shapes 3 (ops s) o),
      );
    })))))

put_keeps : IsLawful put
put_keeps text s W f =
    read_keeps (needed 3 (ops s)) (λ _ _.
    read_keeps (part_at 2 (ops s)) (λ p e.
    member_put_keeps f p (part_fits W.shapes (ops s) 2 p f.state.registers.operands e)))

-- ---- parts that are cut out, and moves

getinterval_keeps : IsLawful getinterval
getinterval_keeps text s W f =
    let o : Fit W.shapes (ops s) = f.state.registers.operands in
    read_keeps (needed 3 (ops s)) (λ _ _.
    read_keeps (integer_at 0 (ops s)) (λ j _.
    read_keeps (integer_at 1 (ops s)) (λ i _.
    read_keeps (part_at 2 (ops s)) (λ p e.
    read_keeps (object_at 2 (ops s)) (λ x g.
    read_keeps (readable_at 2 (ops s)) (λ _ _.
    read_keeps (natural_of j) (λ n _.
    read_keeps (space_in (interval_of p).len n i) (λ at q.
    leaves_keeps f (over_of (piece (interval_of p) at n) x ∷ drop 3 (ops s))
    (cut_fits W.shapes at n (ops s) 2 p x o e g (space_within (interval_of p).len n i at q), drop_fits W.shapes 3 (ops s) o)))))))))

by_count : (at n m len : ℕ) → n ≡ m → at + m ≤ len → at + n ≤ len
by_count at n m len e l = omega (arith, e, l)

-- the operands that are left fit, where the source has room
abbrev LeftFits : World → Interval → Interval → List Object → Type 0
LeftFits W target source xs = (at : ℕ) → at + source.len ≤ target.len → Fit W.shapes xs

-- where there is room, the source fits
abbrev HasRoom : Interval → Interval → Result ℕ ErrorName → Type 0
HasRoom target source room = (at : ℕ) → room ≡ Ok at → at + source.len ≤ target.len

items_move_keeps : {text : List ℕ} {s : State} {W : World} → Fits text W s → (target source : Interval) (room : Result ℕ ErrorName) (xs : List Object) → HasItems W.shapes target → HasItems W.shapes source → HasRoom target source room
    → LeftFits W target source xs → Keeps text 4 s.frames (items_move s target source room xs) s W
items_move_keeps {text = text} {s = s} {W = W} f target source room xs ht hs r h =
    read_keeps (early_room target room) (λ _ _.
    seeking_keeps (GoIn W.shapes target.cell source.len) (storable_items target.cell source) (storable_seeks W target.cell source hs 0 source.len [] (omega arith) (record { fits = tt; shared = tt; count = refl })) (λ items g.
    read_keeps room (λ at q.
    let l = r at q in
    let e = quiet (with_ops s xs) in
    record {
      lawful = items_change W s.count (Leaves text 4 s.frames s (names_taken (item_stores target at items)) e) target ht at items
          (by_count at (length items) source.len target.len g.count l) g.fits g.shared
          (subst (λ k. Leaves text 4 s.frames s k e W) (sym (items_take_none target at items)) (leaves_kept text 4 s W f xs (h at l)));
    })))

bytes_move_keeps : {text : List ℕ} {s : State} {W : World} → Fits text W s → (target source : Interval) (room : Result ℕ ErrorName) (xs : List Object) → HasBytes W.shapes target → HasBytes W.shapes source → HasRoom target source room
    → LeftFits W target source xs → Keeps text 4 s.frames (bytes_move s target source room xs) s W
bytes_move_keeps {text = text} {s = s} {W = W} f target source room xs ht hs r h =
    read_keeps room (λ at q.
    bytes_keeps hs (λ bs g.
    let l = r at q in
    let e = quiet (with_ops s xs) in
    record {
      lawful = bytes_change W s.count (Leaves text 4 s.frames s (names_taken (byte_stores target at bs)) e) target ht at bs
          (by_count at (length bs) source.len target.len g.count l) g.small
          (subst (λ k. Leaves text 4 s.frames s k e W) (sym (bytes_take_none target at bs)) (leaves_kept text 4 s W f xs (h at l)));
    }))

-- ---- putinterval

put_move_keeps : {text : List ℕ} {s : State} {W : World} → Fits text W s → (p q : Part) (m : Move) → FitsPart W.shapes p → FitsPart W.shapes q → move_of p q ≡ Ok m → Keeps text 4 s.frames (put_move s m) s W
put_move_keeps {text = text} {s = s} {W = W} f (part.Items t) (part.Items o) m hp hq e =
    let same : move.Items t o ≡ m = cc in
    subst (λ m. Keeps text 4 s.frames (put_move s m) s W) same
    (items_move_keeps f t o (room_at 1 t o (ops s)) (drop 3 (ops s)) hp hq (room_within 1 t o (ops s)) (λ _ _. drop_fits W.shapes 3 (ops s) f.state.registers.operands))
put_move_keeps {text = text} {s = s} {W = W} f (part.Bytes t) (part.Bytes o) m hp hq e =
    let same : move.Bytes t o ≡ m = cc in
    subst (λ m. Keeps text 4 s.frames (put_move s m) s W) same
    (bytes_move_keeps f t o (room_at 1 t o (ops s)) (drop 3 (ops s)) hp hq (room_within 1 t o (ops s)) (λ _ _. drop_fits W.shapes 3 (ops s) f.state.registers.operands))
put_move_keeps f (part.Items t) (part.Bytes o) m hp hq e = cc
put_move_keeps f (part.Bytes t) (part.Items o) m hp hq e = cc

putinterval_keeps : IsLawful putinterval
putinterval_keeps text s W f =
    let o : Fit W.shapes (ops s) = f.state.registers.operands in
    read_keeps (needed 3 (ops s)) (λ _ _.
    read_keeps (part_at 0 (ops s)) (λ source p.
    read_keeps (integer_at 1 (ops s)) (λ _ _.
    read_keeps (part_at 2 (ops s)) (λ target q.
    read_keeps (move_of target source) (λ m e.
    read_keeps (readable_at 0 (ops s)) (λ _ _.
    read_keeps (writable_at 2 (ops s)) (λ _ _.
    put_move_keeps f target source m (part_fits W.shapes (ops s) 2 target o q) (part_fits W.shapes (ops s) 0 source o p) e)))))))

-- ---- copy

at_front : (at n len : ℕ) → at + n ≤ len → 0 + n ≤ len
at_front at n len l = omega (arith, l)

-- the front of the target fits, and the other operands
front_fits : {text : List ℕ} {s : State} {W : World} → Fits text W s → (p : Part) (x : Object) → part_at 0 (ops s) ≡ Ok p → object_at 0 (ops s) ≡ Ok x → (source : Interval)
    → LeftFits W (interval_of p) source (front_left s (interval_of p) source x)
front_fits {s = s} {W = W} f p x e g source at l =
    let o : Fit W.shapes (ops s) = f.state.registers.operands in
    (cut_fits W.shapes 0 source.len (ops s) 0 p x o e g (at_front at source.len (interval_of p).len l), drop_fits W.shapes 2 (ops s) o)

copy_move_keeps : {text : List ℕ} {s : State} {W : World} → Fits text W s → (x : Object) (p q : Part) (m : Move) → part_at 0 (ops s) ≡ Ok p → part_at 1 (ops s) ≡ Ok q → object_at 0 (ops s) ≡ Ok x → move_of p q ≡ Ok m
    → Keeps text 4 s.frames (copy_move s x m) s W
copy_move_keeps {text = text} {s = s} {W = W} f x (part.Items t) (part.Items o) m hp hq g e =
    let same : move.Items t o ≡ m = cc in
    let r : Fit W.shapes (ops s) = f.state.registers.operands in
    subst (λ m. Keeps text 4 s.frames (copy_move s x m) s W) same
    (items_move_keeps f t o (front_room t o) (front_left s t o x) (part_fits W.shapes (ops s) 0 (part.Items t) r hp) (part_fits W.shapes (ops s) 1 (part.Items o) r hq) (space_within t.len o.len (pos 0)) (front_fits f (part.Items t) x hp g o))
copy_move_keeps {text = text} {s = s} {W = W} f x (part.Bytes t) (part.Bytes o) m hp hq g e =
    let same : move.Bytes t o ≡ m = cc in
    let r : Fit W.shapes (ops s) = f.state.registers.operands in
    subst (λ m. Keeps text 4 s.frames (copy_move s x m) s W) same
    (bytes_move_keeps f t o (front_room t o) (front_left s t o x) (part_fits W.shapes (ops s) 0 (part.Bytes t) r hp) (part_fits W.shapes (ops s) 1 (part.Bytes o) r hq) (space_within t.len o.len (pos 0)) (front_fits f (part.Bytes t) x hp g o))
copy_move_keeps f x (part.Items t) (part.Bytes o) m hp hq g e = cc
copy_move_keeps f x (part.Bytes t) (part.Items o) m hp hq g e = cc

copy_part_keeps : IsLawful copy_part
copy_part_keeps text s W f =
    read_keeps (needed 2 (ops s)) (λ _ _.
    read_keeps (part_at 0 (ops s)) (λ target p.
    read_keeps (part_at 1 (ops s)) (λ source q.
    read_keeps (move_of target source) (λ m e.
    read_keeps (writable_at 0 (ops s)) (λ _ _.
    read_keeps (readable_at 1 (ops s)) (λ _ _.
    read_keeps (object_at 0 (ops s)) (λ x g.
    copy_move_keeps f x target source m p q g e)))))))

copy_operands_keeps : IsLawful copy_operands
copy_operands_keeps text s W f =
    let o : Fit W.shapes (drop 1 (ops s)) = drop_fits W.shapes 1 (ops s) f.state.registers.operands in
    read_keeps (count_at 0 (ops s)) (λ n _.
    read_keeps (needed (n + 1) (ops s)) (λ _ _.
    read_keeps (more_room (n - 1) (ops s)) (λ _ _.
    leaves_keeps f (take n (drop 1 (ops s)) ++ drop 1 (ops s)) (append_fits W.shapes (take n (drop 1 (ops s))) (drop 1 (ops s)) (take_fits W.shapes n (drop 1 (ops s)) o) o))))

either_keeps : {text : List ℕ} {s : State} {W : World} {t u : Ask} (b : Bool) → Keeps text 4 s.frames t s W → Keeps text 4 s.frames u s W → Keeps text 4 s.frames (cond b t u) s W
either_keeps true h g = h
either_keeps false h g = g

copy_keeps : IsLawful copy
copy_keeps text s W f =
    read_keeps (needed 1 (ops s)) (λ _ _.
    either_keeps (is_integer_at 0 (ops s)) (copy_operands_keeps text s W f) (copy_part_keeps text s W f))

-- ---- the operand stack

aload_keeps : IsLawful aload
aload_keeps text s W f =
    let o : Fit W.shapes (ops s) = f.state.registers.operands in
    read_keeps (needed 1 (ops s)) (λ _ _.
    read_keeps (array_at 0 (ops s)) (λ a e.
    read_keeps (object_at 0 (ops s)) (λ x p.
    read_keeps (readable_at 0 (ops s)) (λ _ _.
    read_keeps (more_room a.len (ops s)) (λ _ _.
    seeking_keeps (Fit W.shapes) (pushed_from a 0 a.len (drop 1 (ops s))) (pushed_seeks W a (array_fits W.shapes (ops s) 0 a o e) 0 a.len (drop 1 (ops s)) (omega arith) (drop_fits W.shapes 1 (ops s) o)) (λ xs g.
    leaves_keeps f (x ∷ xs) (object_fits W.shapes (ops s) 0 x o p, g)))))))

astore_keeps : IsLawful astore
astore_keeps text s W f =
    let o : Fit W.shapes (ops s) = f.state.registers.operands in
    read_keeps (needed 1 (ops s)) (λ _ _.
    read_keeps (array_at 0 (ops s)) (λ a q.
    read_keeps (object_at 0 (ops s)) (λ x p.
    read_keeps (writable_at 0 (ops s)) (λ _ _.
    read_keeps (needed (a.len + 1) (ops s)) (λ _ _.
    read_keeps (all_storable a.cell (take a.len (drop 1 (ops s)))) (λ _ r.
    let items : List Object = taken 1 a.len (ops s) in
    let xs : List Object = x ∷ drop (a.len + 1) (ops s) in
    let e = quiet (with_ops s xs) in
    let left = leaves_kept text 4 s W f xs (object_fits W.shapes (ops s) 0 x o p, drop_fits W.shapes (a.len + 1) (ops s) o) in
    record {
      lawful = items_change W s.count (Leaves text 4 s.frames s (names_taken (item_stores a 0 items)) e) a (array_fits W.shapes (ops s) 0 a o q) 0 items
          (taken_within 1 a.len (ops s)) (taken_fits W.shapes 1 a.len (ops s) o) (taken_shared a.cell 1 a.len (ops s) r)
          (subst (λ k. Leaves text 4 s.frames s k e W) (sym (items_take_none a 0 items)) left);
    }))))))

-- ---- all of them

all_keep : AreLawful operators
all_keep =
    array_keeps ▹ right_bracket_keeps ▹ packedarray_keeps ▹ setpacking_keeps ▹ currentpacking_keeps ▹ size_keeps ▹ get_keeps ▹ put_keeps
    ▹ getinterval_keeps ▹ putinterval_keeps ▹ copy_keeps ▹ aload_keeps ▹ astore_keeps ▹ tt

pub run_keeps : (n : ℕ) → IsLawful (run n)
run_keeps = all_lawful operators all_keep
