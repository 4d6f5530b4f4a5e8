-- Each operator keeps a state that fits: its tree again, with what fits beside each look and end.
use Rattle.std.proofs.Common.{◌≡◌, ℕ, zero, suc, ℤ, pos, ◌+◌, ◌-◌, ◌≤◌, Bool, true, false, cond, ◌&&◌, ◌||◌, nat_lt, List, [], ◌∷◌, ◌++◌, drop, length, map, reverse, Option, Some, None, Result, Ok, Err, refl, sym, ap, ◌∙◌, subst, arith}
use Rattle.std.proofs.lemmas.List.{length-append, reverse-append}
use Rattle.std.proofs.Math.Seq.{drop-append_seam}
use Rattle.std.specs.List.{AllByRecursion}
use Rattle.ps_names.specs.declared.error_name.ErrorName.{ErrorName}
use Rattle.ps_names.specs.declared.error_name.ErrorName.TheVariants.{InvalidAccess}
use Rattle.ps_objects.specs.declared.cell.Cell.{Cell}
use Rattle.ps_objects.specs.declared.key.Key.{Key}
use Rattle.ps_objects.specs.declared.object.Kind.{Kind}
use Rattle.ps_objects.specs.declared.object.Kind.TheVariants as kind
use Rattle.ps_objects.specs.declared.object.Object.{Object}
use Rattle.ps_objects.specs.declared.objects.Interval.{Interval}
use Rattle.ps_objects.specs.declared.place.Loc.TheVariants as loc
use Rattle.ps_objects.specs.declared.place.Value.TheVariants as value
use Rattle.ps_objects.specs.declared.place.Shape.{Shape}
use Rattle.ps_objects.specs.declared.place.Shape.TheVariants as shape
use Rattle.ps_objects.specs.Access.{read_right, write_right}
use Rattle.ps_objects.specs.Key.{key_form_at}
use Rattle.ps_objects.specs.Object.{cell_named}
use Rattle.ps_objects.specs.Operands.{needed, room_for, object_at, integer_at, dict_at, array_at, writable_at, dict_room}
use Rattle.ps_kinds.specs.declared.state.State.{State}
use Rattle.ps_memory.specs.Memory.{is_global}
use Rattle.ps_memory.specs.Tree.{done, removes}
use Rattle.ps_meaning.specs.Answer.{names_taken}
use Rattle.ps_meaning.specs.Fits.{Shapes, FitsKey, FitsObject, IsDict, lies_within, takes, value_is_shared}
use Rattle.ps_meaning.specs.Ready.{Fits}
use Rattle.ps_meaning.specs.Registers.{HasBottom, user_dict, global_dict, system_dict}
use Rattle.ps_meaning.specs.Sound.{World, made, with_cell}
use Rattle.ps_operator.specs.Budgets.{unit_room, storable_entry, is_local}
use Rattle.ps_operator.specs.Keys.{key_right_at, key_length, form_cell}
use Rattle.ps_operator.specs.Lawful.{HasDict, FitsOption, Leaves, Keeps, IsLawful}
use Rattle.ps_operator.specs.Making.{next_cell}
use Rattle.ps_operator.specs.Marks.{above_mark}
use Rattle.ps_operator.specs.Numbers.{natural_of, length_of}
use Rattle.ps_operator.specs.Operators.{AreLawful}
use Rattle.ps_operator.specs.Registers.{ops, literal, with_ops, current, quiet, spent, any_of}
use Rattle.ps_operator.specs.Storing.{item_stores}
use Rattle.ps_operator.proofs.Ending.{dicts_keeps}
use Rattle.ps_operator.proofs.Fitting.{Fit, drop_fits, object_fits, dict_fits, array_fits, form_fits, current_fits}
use Rattle.ps_operator.proofs.Growing.{stays, new_here, room_kept, stored_leaves, made_leaves, entry_stored_keeps, free_keeps, new_fits}
use Rattle.ps_operator.proofs.Lawful.{read_keeps, access_keeps, entry_keeps, leaves_kept, leaves_keeps, key_keeps, find_keeps}
use Rattle.ps_operator.proofs.Running.{◌▹◌, all_lawful}
use Rattle.ps_operator.proofs.Seeking.{seeking_keeps}
use Rattle.ps_operator.proofs.StoreSteps.{items_take_none}
use Rattle.ps_operator.proofs.Storing.{AreShared, items_change}
use Rattle.dict_ops.specs.Entries.{number_told, capacity_of, greater_of, is_present, value_in, is_open, dict, dict_length, maxlength, known, dict_get, dict_put, undef}
use Rattle.dict_ops.specs.Stack.{above_bottom, stack_storable, holds, stack_objects, front, front_of, or_current, holder, tells_holder, begin, end, def, load, store, where_, currentdict, countdictstack, cleardictstack, dictstack}
use Rattle.dict_ops.specs.Pairs.{pairs_in, all_pass, pairs_from, pair_stores, pairs_dict}
use Rattle.dict_ops.specs.declared.pairs.Stage.TheVariants as stage
use Rattle.dict_ops.specs.Copies.{keys_storable, early_room, pairs_for, dict_copy}
use Rattle.dict_ops.specs.Operators.{operators, run}
use Rattle.dict_ops.proofs.Looking.{keys_keeps, ask_keeps, FitsHolder, holder_seeks}
use Rattle.dict_ops.proofs.Reading.{holds_all, objects_within}
use Rattle.dict_ops.proofs.Pairing.{GoIn, operand_pairs_seek, entry_pairs_seek, not_local, shared_value, pairs_change, pairs_take_none, pairs_grow}

-- ---- dictionaries and their entries

dict_keeps : IsLawful dict
dict_keeps text s W f =
    read_keeps (needed 1 (ops s)) (λ _ _.
    read_keeps (integer_at 0 (ops s)) (λ i _.
    read_keeps (natural_of i) (λ n _.
    read_keeps (length_of n) (λ m _.
    free_keeps f (shape.Dict m) (literal (kind.Dict (next_cell s)) ∷ drop 1 (ops s))
    (new_fits f (shape.Dict m) (literal (kind.Dict (next_cell s))) (drop 1 (ops s)) refl refl (drop_fits W.shapes 1 (ops s) f.state.registers.operands))))))

length_keeps : IsLawful dict_length
length_keeps text s W f =
    let o : Fit W.shapes (ops s) = f.state.registers.operands in
    read_keeps (needed 1 (ops s)) (λ _ _.
    read_keeps (dict_at 0 (ops s)) (λ d h.
    access_keeps (dict_fits W.shapes (ops s) 0 d o h) (λ a.
    read_keeps (read_right a) (λ _ _.
    keys_keeps (dict_fits W.shapes (ops s) 0 d o h) (λ ks _.
    read_keeps (number_told (length ks)) (λ n _.
    leaves_keeps f (literal (kind.Integer n) ∷ drop 1 (ops s)) (tt, drop_fits W.shapes 1 (ops s) o)))))))

maxlength_keeps : IsLawful maxlength
maxlength_keeps text s W f =
    let o : Fit W.shapes (ops s) = f.state.registers.operands in
    read_keeps (needed 1 (ops s)) (λ _ _.
    read_keeps (dict_at 0 (ops s)) (λ d h.
    access_keeps (dict_fits W.shapes (ops s) 0 d o h) (λ a.
    read_keeps (read_right a) (λ _ _.
    keys_keeps (dict_fits W.shapes (ops s) 0 d o h) (λ ks _.
    ask_keeps (dict_fits W.shapes (ops s) 0 d o h) (λ sh.
    read_keeps (number_told (greater_of (length ks) (capacity_of sh))) (λ n _.
    leaves_keeps f (literal (kind.Integer n) ∷ drop 1 (ops s)) (tt, drop_fits W.shapes 1 (ops s) o))))))))

known_keeps : IsLawful known
known_keeps text s W f =
    let o : Fit W.shapes (ops s) = f.state.registers.operands in
    read_keeps (needed 2 (ops s)) (λ _ _.
    read_keeps (key_form_at 0 (ops s)) (λ fm e.
    read_keeps (dict_at 1 (ops s)) (λ d h.
    access_keeps (dict_fits W.shapes (ops s) 1 d o h) (λ a.
    read_keeps (read_right a) (λ _ _.
    read_keeps (key_right_at 0 (ops s)) (λ _ _.
    read_keeps (key_length fm) (λ _ _.
    key_keeps (form_fits W.shapes (ops s) 0 fm o e) (λ k _.
    entry_keeps (dict_fits W.shapes (ops s) 1 d o h) (λ x _.
    leaves_keeps f (literal (kind.Boolean (is_present x)) ∷ drop 2 (ops s)) (tt, drop_fits W.shapes 2 (ops s) o))))))))))

value_fits : (K : Shapes) (found : Option Object) (x : Object) → FitsOption K found → value_in found ≡ Ok x → FitsObject K x
value_fits K (Some y) x h e = let p : y ≡ x = cc in subst (FitsObject K) p h
value_fits K None x h e = cc

get_keeps : IsLawful dict_get
get_keeps text s W f =
    let o : Fit W.shapes (ops s) = f.state.registers.operands in
    read_keeps (needed 2 (ops s)) (λ _ _.
    read_keeps (key_form_at 0 (ops s)) (λ fm e.
    read_keeps (dict_at 1 (ops s)) (λ d h.
    access_keeps (dict_fits W.shapes (ops s) 1 d o h) (λ a.
    read_keeps (read_right a) (λ _ _.
    read_keeps (key_right_at 0 (ops s)) (λ _ _.
    read_keeps (key_length fm) (λ _ _.
    key_keeps (form_fits W.shapes (ops s) 0 fm o e) (λ k _.
    entry_keeps (dict_fits W.shapes (ops s) 1 d o h) (λ found g.
    read_keeps (value_in found) (λ x q.
    leaves_keeps f (x ∷ drop 2 (ops s)) (value_fits W.shapes found x g q, drop_fits W.shapes 2 (ops s) o)))))))))))

put_keeps : IsLawful dict_put
put_keeps text s W f =
    let o : Fit W.shapes (ops s) = f.state.registers.operands in
    read_keeps (needed 3 (ops s)) (λ _ _.
    read_keeps (object_at 0 (ops s)) (λ x p.
    read_keeps (key_form_at 1 (ops s)) (λ fm e.
    read_keeps (dict_at 2 (ops s)) (λ d h.
    access_keeps (dict_fits W.shapes (ops s) 2 d o h) (λ a.
    read_keeps (write_right a) (λ _ _.
    read_keeps (key_right_at 1 (ops s)) (λ _ _.
    read_keeps (storable_entry d (form_cell fm) x.kind) (λ _ q.
    read_keeps (key_length fm) (λ _ _.
    read_keeps (unit_room s.kind s.units 1) (λ _ u.
    key_keeps (form_fits W.shapes (ops s) 1 fm o e) (λ k j.
    entry_stored_keeps f d k x (drop 3 (ops s)) 1 (dict_fits W.shapes (ops s) 2 d o h) j.fits (object_fits W.shapes (ops s) 0 x o p)
    (subst (λ c. storable_entry d c x.kind ≡ Ok tt) (sym j.cell) q) (drop_fits W.shapes 3 (ops s) o) u)))))))))))

undef_keeps : IsLawful undef
undef_keeps text s W f =
    let o : Fit W.shapes (ops s) = f.state.registers.operands in
    read_keeps (needed 2 (ops s)) (λ _ _.
    read_keeps (key_form_at 0 (ops s)) (λ fm e.
    read_keeps (dict_at 1 (ops s)) (λ d h.
    access_keeps (dict_fits W.shapes (ops s) 1 d o h) (λ a.
    read_keeps (write_right a) (λ _ _.
    read_keeps (is_open d) (λ _ _.
    read_keeps (key_right_at 0 (ops s)) (λ _ _.
    read_keeps (key_length fm) (λ _ _.
    key_keeps (form_fits W.shapes (ops s) 0 fm o e) (λ k _.
    record { lawful = ((dict_fits W.shapes (ops s) 1 d o h).stands, refl, tt, (λ _. tt), leaves_kept text 4 s W f (drop 2 (ops s)) (drop_fits W.shapes 2 (ops s) o)) })))))))))

-- ---- the dictionary stack

begin_keeps : IsLawful begin
begin_keeps text s W f =
    let o : Fit W.shapes (ops s) = f.state.registers.operands in
    read_keeps (needed 1 (ops s)) (λ _ _.
    read_keeps (dict_at 0 (ops s)) (λ d h.
    access_keeps (dict_fits W.shapes (ops s) 0 d o h) (λ a.
    read_keeps (read_right a) (λ _ _.
    read_keeps (dict_room s.regs.dicts) (λ _ _.
    dicts_keeps f (drop 1 (ops s)) (d ∷ s.regs.dicts) (drop_fits W.shapes 1 (ops s) o) ((dict_fits W.shapes (ops s) 0 d o h).stands, f.state.registers.dicts)
    (d ∷ f.state.registers.bottom.0, ap (λ ds. d ∷ ds) f.state.registers.bottom.1))))))

-- the bottom of the stack
abbrev bottom : List Cell
bottom = user_dict ∷ global_dict ∷ system_dict ∷ []

drop_dicts : (K : Shapes) (n : ℕ) (ds : List Cell) → AllByRecursion (IsDict K) ds → AllByRecursion (IsDict K) (drop n ds)
drop_dicts K zero ds h = h
drop_dicts K (suc n) [] h = tt
drop_dicts K (suc n) (d ∷ ds) h = drop_dicts K n ds h.1

-- one above the bottom goes
one_less : (ds above : List Cell) → ds ≡ above ++ bottom → above_bottom ds ≡ Ok tt → HasBottom (drop 1 ds)
one_less ds [] e h = absurd (no (ap above_bottom (sym e) ∙ h))
  where
    no : above_bottom bottom ≡ Ok tt → ⊥
    no q = cc
one_less ds (c ∷ above) e h = (above, ap (drop 1) e)

end_keeps : IsLawful end
end_keeps text s W f =
    read_keeps (above_bottom s.regs.dicts) (λ _ h.
    dicts_keeps f (ops s) (drop 1 s.regs.dicts) f.state.registers.operands (drop_dicts W.shapes 1 s.regs.dicts f.state.registers.dicts)
    (one_less s.regs.dicts f.state.registers.bottom.0 f.state.registers.bottom.1 h))

-- all above the bottom go
bottom_left : (above : List Cell) → drop (length (above ++ bottom) - 3) (above ++ bottom) ≡ bottom
bottom_left above = ap (λ n. drop n (above ++ bottom)) (count (length (above ++ bottom)) (length above) (length-append above bottom)) ∙ drop-append_seam above bottom
  where
    count : (n m : ℕ) → n ≡ m + 3 → n - 3 ≡ m
    count n m e = omega (arith, e)

cleardictstack_keeps : IsLawful cleardictstack
cleardictstack_keeps text s W f =
    let b = f.state.registers.bottom in
    dicts_keeps f (ops s) (drop (length s.regs.dicts - 3) s.regs.dicts) f.state.registers.operands (drop_dicts W.shapes (length s.regs.dicts - 3) s.regs.dicts f.state.registers.dicts)
    ([], ap (λ (ds : List Cell). drop (length ds - 3) ds) b.1 ∙ bottom_left b.0)

-- a dictionary as an object
object_of_dict : (K : Shapes) (d : Cell) → HasDict K d → FitsObject K (literal (kind.Dict d))
object_of_dict K d h = (shape.Dict h.stands.0, h.stands.1, refl)

currentdict_keeps : IsLawful currentdict
currentdict_keeps text s W f =
    let hd = current_fits W.shapes s.regs.dicts f.state.registers.dicts f.state.registers.bottom in
    read_keeps (room_for 1 (ops s)) (λ _ _.
    leaves_keeps f (literal (kind.Dict (current s.regs.dicts)) ∷ ops s) (object_of_dict W.shapes (current s.regs.dicts) hd, f.state.registers.operands))

countdictstack_keeps : IsLawful countdictstack
countdictstack_keeps text s W f =
    read_keeps (number_told (length s.regs.dicts)) (λ n _.
    read_keeps (room_for 1 (ops s)) (λ _ _.
    leaves_keeps f (literal (kind.Integer n) ∷ ops s) (tt, f.state.registers.operands)))

-- ---- dictstack

all_after : {A : Type 0} (P : A → Type 0) (xs : List A) (y : A) → AllByRecursion P xs → P y → AllByRecursion P (xs ++ y ∷ [])
all_after P [] y h g = (g, tt)
all_after P (x ∷ xs) y h g = (h.0, all_after P xs y h.1 g)

all_turned : {A : Type 0} (P : A → Type 0) (xs : List A) → AllByRecursion P xs → AllByRecursion P (reverse xs)
all_turned P [] h = tt
all_turned P (x ∷ xs) h = subst (AllByRecursion P) (sym (reverse-append (x ∷ []) xs)) (all_after P (reverse xs) x (all_turned P xs h.1) h.0)

dict_objects_fit : (K : Shapes) (ds : List Cell) → AllByRecursion (IsDict K) ds → Fit K (map (λ d. literal (kind.Dict d)) ds)
dict_objects_fit K [] h = tt
dict_objects_fit K (d ∷ ds) h = (object_of_dict K d (record { stands = h.0 }), dict_objects_fit K ds h.1)

local_by : (g l : Bool) → cond {A = Result (Unit {0}) ErrorName} (g && l) (Err InvalidAccess) (Ok tt) ≡ Ok tt → g ≡ true → l ≡ false
local_by true true e h = cc
local_by true false e h = refl
local_by false l e h = cc

none_first : (a b : Bool) → a || b ≡ false → a ≡ false
none_first true b e = cc
none_first false b e = refl

none_second : (a b : Bool) → a || b ≡ false → b ≡ false
none_second true b e = cc
none_second false b e = e

dict_objects_shared : (a : Interval) (ds : List Cell) → (is_global a.cell ≡ true → any_of (λ d. is_local (Some d)) ds ≡ false) → AreShared a (map (λ d. literal (kind.Dict d)) ds)
dict_objects_shared a [] h = tt
dict_objects_shared a (d ∷ ds) h = (
  λ g. shared_value a.cell (Some d) (not_local (Some d) (none_first (is_local (Some d)) (any_of (λ d. is_local (Some d)) ds) (h g))),
  dict_objects_shared a ds (λ g. none_second (is_local (Some d)) (any_of (λ d. is_local (Some d)) ds) (h g)),
)

shorter : (start len n size : ℕ) → lies_within start len size ≡ true → n ≤ len → lies_within start n size ≡ true
shorter start len n size h l = grind arith

front_takes : (a : Interval) (packed : Bool) (n : ℕ) (sh : Shape) → n ≤ a.len → takes (kind.Array a packed) sh ≡ true → takes (kind.Array (record a { len = n }) packed) sh ≡ true
front_takes a packed n (shape.Array m) l h = shorter a.start a.len n m h l
front_takes a packed n (shape.Dict m) l h = h
front_takes a packed n (shape.Str m) l h = h

front_fits : (K : Shapes) (x : Object) (a : Interval) (n : ℕ) (xs : List Object) → object_at 0 xs ≡ Ok x → array_at 0 xs ≡ Ok a → n ≤ a.len → FitsObject K x → FitsObject K (front_of n x)
front_fits K x a n [] p q l h = cc
front_fits K x a n (y ∷ ys) p q l h = let e : y ≡ x = cc in subst (λ (z : Object). FitsObject K (front_of n z)) e (go y.kind q (subst (FitsObject K) (sym e) h))
  where
    go : (k : Kind) → array_at 0 (record y { kind = k } ∷ ys) ≡ Ok a → FitsObject K (record y { kind = k }) → FitsObject K (front_of n (record y { kind = k }))
    go (kind.Array b packed) q h = let e : b ≡ a = cc in (h.0, h.1, front_takes b packed n h.0 (subst (λ (c : Interval). n ≤ c.len) (sym e) l) h.2)
    go _ q h = cc

dictstack_keeps : IsLawful dictstack
dictstack_keeps text s W f =
    let o : Fit W.shapes (ops s) = f.state.registers.operands in
    let ds : List Cell = s.regs.dicts in
    let os : List Object = stack_objects ds in
    let ys : List Object = map (λ d. literal (kind.Dict d)) ds in
    let n : ℕ = length ds in
    read_keeps (needed 1 (ops s)) (λ _ _.
    read_keeps (object_at 0 (ops s)) (λ x p.
    read_keeps (array_at 0 (ops s)) (λ a q.
    read_keeps (writable_at 0 (ops s)) (λ _ _.
    read_keeps (stack_storable a ds) (λ _ r.
    read_keeps (holds a ds) (λ _ l.
    let m : n ≤ a.len = holds_all a ds l in
    let e = quiet (with_ops s (front_of n x ∷ drop 1 (ops s))) in
    let left = leaves_kept text 4 s W f (front_of n x ∷ drop 1 (ops s)) (front_fits W.shapes x a n (ops s) p q m (object_fits W.shapes (ops s) 0 x o p), drop_fits W.shapes 1 (ops s) o) in
    record {
      lawful = items_change W s.count (Leaves text 4 s.frames s (names_taken (item_stores a 0 os)) e) a (array_fits W.shapes (ops s) 0 a o q) 0 os
          (objects_within a ds l)
          (all_turned (FitsObject W.shapes) ys (dict_objects_fit W.shapes ds f.state.registers.dicts))
          (all_turned (λ x. is_global a.cell ≡ true → value_is_shared a.cell (cell_named x.kind) ≡ true) ys (dict_objects_shared a ds (local_by (is_global a.cell) (any_of (λ d. is_local (Some d)) ds) r)))
          (subst (λ k. Leaves text 4 s.frames s k e W) (sym (items_take_none a 0 os)) left);
    }))))))

-- ---- what is defined and sought

def_keeps : IsLawful def
def_keeps text s W f =
    let o : Fit W.shapes (ops s) = f.state.registers.operands in
    let d : Cell = current s.regs.dicts in
    let hd = current_fits W.shapes s.regs.dicts f.state.registers.dicts f.state.registers.bottom in
    read_keeps (needed 2 (ops s)) (λ _ _.
    read_keeps (object_at 0 (ops s)) (λ x p.
    read_keeps (key_form_at 1 (ops s)) (λ fm e.
    access_keeps hd (λ a.
    read_keeps (write_right a) (λ _ _.
    read_keeps (key_right_at 1 (ops s)) (λ _ _.
    read_keeps (storable_entry d (form_cell fm) x.kind) (λ _ q.
    read_keeps (key_length fm) (λ _ _.
    read_keeps (unit_room s.kind s.units 1) (λ _ u.
    key_keeps (form_fits W.shapes (ops s) 1 fm o e) (λ k j.
    entry_stored_keeps f d k x (drop 2 (ops s)) 1 hd j.fits (object_fits W.shapes (ops s) 0 x o p)
    (subst (λ c. storable_entry d c x.kind ≡ Ok tt) (sym j.cell) q) (drop_fits W.shapes 2 (ops s) o) u))))))))))

load_keeps : IsLawful load
load_keeps text s W f =
    let o : Fit W.shapes (ops s) = f.state.registers.operands in
    read_keeps (needed 1 (ops s)) (λ _ _.
    read_keeps (key_form_at 0 (ops s)) (λ fm e.
    read_keeps (key_right_at 0 (ops s)) (λ _ _.
    read_keeps (key_length fm) (λ _ _.
    key_keeps (form_fits W.shapes (ops s) 0 fm o e) (λ k _.
    find_keeps s.regs.dicts k f.state.registers.dicts (λ x g.
    leaves_keeps f (x ∷ drop 1 (ops s)) (g, drop_fits W.shapes 1 (ops s) o)))))))

held_fits : (K : Shapes) (ds : List Cell) (there : Option Cell) → HasDict K (current ds) → FitsHolder K there → HasDict K (or_current ds there)
held_fits K ds None h g = h
held_fits K ds (Some d) h g = g

store_keeps : IsLawful store
store_keeps text s W f =
    let o : Fit W.shapes (ops s) = f.state.registers.operands in
    let ds : List Cell = s.regs.dicts in
    let hd = current_fits W.shapes ds f.state.registers.dicts f.state.registers.bottom in
    read_keeps (needed 2 (ops s)) (λ _ _.
    read_keeps (object_at 0 (ops s)) (λ x p.
    read_keeps (key_form_at 1 (ops s)) (λ fm e.
    read_keeps (key_right_at 1 (ops s)) (λ _ _.
    read_keeps (key_length fm) (λ _ _.
    key_keeps (form_fits W.shapes (ops s) 1 fm o e) (λ k j.
    seeking_keeps (FitsHolder W.shapes) (holder ds k) (holder_seeks W ds k f.state.registers.dicts) (λ there g.
    let d : Cell = or_current ds there in
    let h = held_fits W.shapes ds there hd g in
    access_keeps h (λ a.
    read_keeps (write_right a) (λ _ _.
    read_keeps (storable_entry d (form_cell fm) x.kind) (λ _ q.
    read_keeps (unit_room s.kind s.units 1) (λ _ u.
    entry_stored_keeps f d k x (drop 2 (ops s)) 1 h j.fits (object_fits W.shapes (ops s) 0 x o p)
    (subst (λ c. storable_entry d c x.kind ≡ Ok tt) (sym j.cell) q) (drop_fits W.shapes 2 (ops s) o) u)))))))))))

told_keeps : (text : List ℕ) (s : State) (W : World) → Fits text W s → (there : Option Cell) → FitsHolder W.shapes there → Keeps text 4 s.frames (tells_holder s there) s W
told_keeps text s W f (Some d) h =
    let o : Fit W.shapes (ops s) = f.state.registers.operands in
    read_keeps (room_for 1 (ops s)) (λ _ _.
    leaves_keeps f (literal (kind.Boolean true) ∷ literal (kind.Dict d) ∷ drop 1 (ops s)) (tt, (object_of_dict W.shapes d h, drop_fits W.shapes 1 (ops s) o)))
told_keeps text s W f None h =
    leaves_keeps f (literal (kind.Boolean false) ∷ drop 1 (ops s)) (tt, drop_fits W.shapes 1 (ops s) f.state.registers.operands)

where_keeps : IsLawful where_
where_keeps text s W f =
    let o : Fit W.shapes (ops s) = f.state.registers.operands in
    read_keeps (needed 1 (ops s)) (λ _ _.
    read_keeps (key_form_at 0 (ops s)) (λ fm e.
    read_keeps (key_right_at 0 (ops s)) (λ _ _.
    read_keeps (key_length fm) (λ _ _.
    key_keeps (form_fits W.shapes (ops s) 0 fm o e) (λ k _.
    seeking_keeps (FitsHolder W.shapes) (holder s.regs.dicts k) (holder_seeks W s.regs.dicts k f.state.registers.dicts) (told_keeps text s W f))))))

-- ---- pairs

pairs_dict_keeps : IsLawful pairs_dict
pairs_dict_keeps text s W f =
    let o : Fit W.shapes (ops s) = f.state.registers.operands in
    let d : Cell = next_cell s in
    read_keeps (above_mark (ops s)) (λ n _.
    read_keeps (pairs_in n) (λ m _.
    read_keeps (all_pass stage.Typed (ops s) m) (λ _ _.
    read_keeps (all_pass (stage.Right d) (ops s) m) (λ _ r.
    read_keeps (all_pass stage.Short (ops s) m) (λ _ _.
    read_keeps (unit_room s.kind s.units m) (λ _ u.
    seeking_keeps (GoIn W.shapes d) (pairs_from (ops s) 0 m []) (operand_pairs_seek W d (ops s) o 0 m [] r tt) (λ ps g.
    let sh : Shape = shape.Dict m in
    let V : World = made d sh W in
    let xs : List Object = literal (kind.Dict d) ∷ drop (n + 1) (ops s) in
    let e = quiet (spent (with_ops s xs) m) in
    let left = made_leaves text s W f d sh xs m refl refl (new_fits f sh (literal (kind.Dict d)) (drop (n + 1) (ops s)) refl refl (drop_fits W.shapes (n + 1) (ops s) o)) (room_kept s m u) in
    let here : HasDict V.shapes d = record { stands = (m, new_here W s.count f.state.ahead d sh (sym f.state.section) refl) } in
    record {
      lawful = (
        sym f.state.section,
        refl,
        pairs_change (s.count + 1) d V (Leaves text 4 s.frames s (suc (names_taken (pair_stores d ps))) e) here ps
            (pairs_grow W.shapes V.shapes (stays W s.count f.state.ahead d sh (sym f.state.section) refl) d ps g)
            (subst (λ k. Leaves text 4 s.frames s (suc k) e V) (sym (pairs_take_none d ps)) left),
      );
    })))))))

copy_keeps : IsLawful dict_copy
copy_keeps text s W f =
    let o : Fit W.shapes (ops s) = f.state.registers.operands in
    read_keeps (needed 2 (ops s)) (λ _ _.
    read_keeps (object_at 0 (ops s)) (λ x p.
    read_keeps (dict_at 0 (ops s)) (λ d h.
    read_keeps (dict_at 1 (ops s)) (λ c i.
    access_keeps (dict_fits W.shapes (ops s) 0 d o h) (λ a.
    read_keeps (write_right a) (λ _ _.
    access_keeps (dict_fits W.shapes (ops s) 1 c o i) (λ b.
    read_keeps (read_right b) (λ _ _.
    read_keeps (is_open d) (λ _ _.
    keys_keeps (dict_fits W.shapes (ops s) 1 c o i) (λ ks j.
    read_keeps (keys_storable d ks) (λ _ _.
    read_keeps (early_room s d (length ks)) (λ _ _.
    seeking_keeps (GoIn W.shapes d) (pairs_for d c ks []) (entry_pairs_seek W d c (dict_fits W.shapes (ops s) 1 c o i) ks j [] tt) (λ ps g.
    read_keeps (unit_room s.kind s.units (length ks)) (λ _ u.
    let n : ℕ = length ks in
    let xs : List Object = x ∷ drop 2 (ops s) in
    let e = quiet (spent (with_ops s xs) n) in
    let left = stored_leaves text s W f xs n (object_fits W.shapes (ops s) 0 x o p, drop_fits W.shapes 2 (ops s) o) (room_kept s n u) in
    record {
      lawful = pairs_change s.count d W (Leaves text 4 s.frames s (names_taken (pair_stores d ps)) e) (dict_fits W.shapes (ops s) 0 d o h) ps g
          (subst (λ k. Leaves text 4 s.frames s k e W) (sym (pairs_take_none d ps)) left);
    }))))))))))))))

-- ---- all of them

all_keep : AreLawful operators
all_keep =
    dict_keeps ▹ pairs_dict_keeps ▹ length_keeps ▹ maxlength_keeps ▹ get_keeps ▹ put_keeps ▹ copy_keeps
    ▹ begin_keeps ▹ end_keeps ▹ def_keeps ▹ load_keeps ▹ store_keeps ▹ known_keeps ▹ where_keeps ▹ undef_keeps
    ▹ currentdict_keeps ▹ countdictstack_keeps ▹ cleardictstack_keeps ▹ dictstack_keeps ▹ tt

pub run_keeps : (n : ℕ) → IsLawful (run n)
run_keeps = all_lawful operators all_keep
