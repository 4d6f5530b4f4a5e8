-- Pairs that are read of operands or of a dictionary fit, and may be stored.
use Rattle.std.proofs.Common.{◌≡◌, ℕ, zero, suc, ◌+◌, ◌*◌, Bool, true, false, cond, ◌&&◌, ◌||◌, not, List, [], ◌∷◌, Option, Some, None, Result, Ok, Err, ℤ, pos, negsuc, if◌then◌else◌, nat_eq, int_le, int_div, int_rem, refl, sym, ap, ◌∙◌, subst}
use Rattle.std.specs.Ordering.{int_eq}
use Rattle.std.specs.List.{AllByRecursion}
use Rattle.ps_shapes.specs.declared.numbers.Real.{Real}
use Rattle.ps_names.specs.declared.error_name.ErrorName.{ErrorName}
use Rattle.ps_names.specs.declared.error_name.ErrorName.TheVariants.{InvalidAccess}
use Rattle.ps_objects.specs.declared.cell.Cell.{Cell}
use Rattle.ps_objects.specs.declared.key.Key.{Key}
use Rattle.ps_objects.specs.declared.key.Key.TheVariants as key
use Rattle.ps_objects.specs.declared.key.KeyForm.{KeyForm}
use Rattle.ps_objects.specs.declared.key.KeyForm.TheVariants as form
use Rattle.ps_objects.specs.declared.object.Kind.{Kind}
use Rattle.ps_objects.specs.declared.object.Kind.TheVariants as kind
use Rattle.ps_objects.specs.declared.object.Object.{Object}
use Rattle.ps_objects.specs.declared.place.Value.TheVariants as value
use Rattle.ps_objects.specs.Key.{real_key, key_form_of, key_form_at, cell_of_key}
use Rattle.ps_objects.specs.Object.{cell_named}
use Rattle.ps_objects.specs.Operands.{object_at}
use Rattle.ps_kinds.specs.declared.frame.Pair.{Pair}
use Rattle.ps_memory.specs.Memory.{is_global, entry, is}
use Rattle.ps_meaning.specs.Answer.{names_taken}
use Rattle.ps_meaning.specs.Fits.{Shapes, FitsKey, FitsObject, IsDict, key_is_shared, value_is_shared, is_system_dict}
use Rattle.ps_meaning.specs.Sound.{World}
use Rattle.ps_meaning.proofs.Fits.{found_stays}
use Rattle.ps_operator.specs.Budgets.{is_barred, is_local, storable_entry}
use Rattle.ps_operator.specs.Keys.{key_right_at, key_of, form_cell}
use Rattle.ps_operator.specs.Lawful.{HasDict, FitsOption, Changes}
use Rattle.ps_operator.proofs.Fitting.{Fit, object_fits, form_fits}
use Rattle.ps_operator.proofs.Lawful.{IsKeyOf}
use Rattle.ps_operator.proofs.Seeking.{Seeks, found_seeks, read_seeks, then_seeks, key_seeks}
use Rattle.dict_ops.specs.Copies.{pairs_for, value_storable, with_pair}
use Rattle.dict_ops.specs.Pairs.{then_read, key_cell, key_depth, value_depth, pair_right, passes, each_passes, pairs_from, pair_stores}
use Rattle.dict_ops.specs.declared.pairs.Stage.TheVariants as stage
use Rattle.dict_ops.proofs.Looking.{entry_seeks}

-- a pair that fits, and may lie in a dictionary
pub record GoesIn (K : Shapes) (d : Cell) (p : Pair) : Type 0 where
  pub key : FitsKey K p.key
  pub value : FitsObject K p.value
  pub storable : storable_entry d (cell_of_key p.key) p.value.kind ≡ Ok tt

abbrev pub GoIn : Shapes → Cell → List Pair → Type 0
GoIn K d = AllByRecursion (GoesIn K d)

-- ---- what passed

-- both parts of what was read are there
pub first_read : {A B : Type 0} (r : Result A ErrorName) (k : A → Result B ErrorName) (y : B) → then_read r k ≡ Ok y → (x : A) × (r ≡ Ok x) × (k x ≡ Ok y)
first_read (Ok x) k y e = (x, refl, e)
first_read (Err x) k y e = cc

real_cell : (b : Bool) (n : ℤ) (x : Real) → form_cell (form.Key (if b then key.Integer n else key.Real x)) ≡ None
real_cell true n x = refl
real_cell false n x = refl

-- the cell of a key is known before its bytes are
key_form_cell : (k : Kind) (f : KeyForm) → key_form_of k ≡ Ok f → key_cell k ≡ form_cell f
key_form_cell (kind.Real x) f e =
    let n = int_div x.count (pos 16777216) in
    let p : form.Key (real_key x) ≡ f = cc in
    sym (real_cell (int_eq (int_rem x.count (pos 16777216)) (pos 0) && (int_le (negsuc 2147483647) n && int_le n (pos 2147483647))) n x) ∙ ap form_cell p
key_form_cell (kind.Str a) f e = cc
key_form_cell (kind.Integer n) f e = cc
key_form_cell (kind.Boolean b) f e = cc
key_form_cell kind.Null f e = cc
key_form_cell kind.Mark f e = cc
key_form_cell (kind.Name n) f e = cc
key_form_cell (kind.Operator n) f e = cc
key_form_cell (kind.Array a packed) f e = cc
key_form_cell (kind.Dict c) f e = cc
key_form_cell (kind.File n) f e = cc
key_form_cell (kind.Filter n m) f e = cc
key_form_cell (kind.Save q) f e = cc
key_form_cell (kind.FontId c) f e = cc

-- the same of an operand
key_at_cell : (xs : List Object) (i : ℕ) (k : Object) (f : KeyForm) → object_at i xs ≡ Ok k → key_form_at i xs ≡ Ok f → key_cell k.kind ≡ form_cell f
key_at_cell [] i k f p e = cc
key_at_cell (y ∷ ys) zero k f p e = let q : y ≡ k = cc in subst (λ (k : Object). key_cell k.kind ≡ form_cell f) q (key_form_cell y.kind f e)
key_at_cell (y ∷ ys) (suc i) k f p e = key_at_cell ys i k f p e

same_object : (x y : Object) (r : Result Object ErrorName) → r ≡ Ok x → r ≡ Ok y → x ≡ y
same_object x y r p q = cc

right_storable : (d : Cell) (xs : List Object) (n : ℕ) (f : KeyForm) (x : Object) → pair_right d xs n ≡ Ok tt → key_form_at (key_depth n) xs ≡ Ok f → object_at (value_depth n) xs ≡ Ok x
    → storable_entry d (form_cell f) x.kind ≡ Ok tt
right_storable d xs n f x r p q =
    let a = first_read (key_right_at (key_depth n) xs) (λ _. then_read (object_at (key_depth n) xs) (λ k. then_read (object_at (value_depth n) xs) (λ y. storable_entry d (key_cell k.kind) y.kind))) tt r in
    let b = first_read (object_at (key_depth n) xs) (λ k. then_read (object_at (value_depth n) xs) (λ y. storable_entry d (key_cell k.kind) y.kind)) tt a.2 in
    let c = first_read (object_at (value_depth n) xs) (λ y. storable_entry d (key_cell b.0.kind) y.kind) tt b.2 in
    subst (λ o. storable_entry d o x.kind ≡ Ok tt) (key_at_cell xs (key_depth n) b.0 f b.1 p)
    (subst (λ (y : Object). storable_entry d (key_cell b.0.kind) y.kind ≡ Ok tt) (same_object c.0 x (object_at (value_depth n) xs) c.1 q) c.2)

-- ---- pairs that are sought

module _ (W : World) (d : Cell) where
  pub operand_pairs_seek : (xs : List Object) → Fit W.shapes xs → (at n : ℕ) (seen : List Pair) → each_passes (stage.Right d) xs at n ≡ Ok tt → GoIn W.shapes d seen
      → Seeks W (GoIn W.shapes d) (pairs_from xs at n seen)
  operand_pairs_seek xs o at zero seen r h = found_seeks (GoIn W.shapes d) seen h
  operand_pairs_seek xs o at (suc n) seen r h =
      let a = first_read (passes (stage.Right d) xs at) (λ _. each_passes (stage.Right d) xs (at + 1) n) tt r in
      read_seeks (key_form_at (key_depth at) xs) (λ f p.
      read_seeks (object_at (value_depth at) xs) (λ x q.
      then_seeks (IsKeyOf W f) (key_of f) (key_seeks (form_fits W.shapes xs (key_depth at) f o p)) (λ k j.
      operand_pairs_seek xs o (at + 1) n (record { key = k; value = x } ∷ seen) a.2 (
        record {
          key = j.fits;
          value = object_fits W.shapes xs (value_depth at) x o q;
          storable = subst (λ c. storable_entry d c x.kind ≡ Ok tt) (sym j.cell) (right_storable d xs at f x a.1 p q);
        },
        h,
      ))))

  pair_with : (k : Key) (x : Option Object) (seen : List Pair) → FitsKey W.shapes k → FitsOption W.shapes x → value_storable d k x ≡ Ok tt → GoIn W.shapes d seen → GoIn W.shapes d (with_pair k x seen)
  pair_with k None seen h g e r = r
  pair_with k (Some x) seen h g e r = (record { key = h; value = g; storable = e }, r)

  pub entry_pairs_seek : (source : Cell) → HasDict W.shapes source → (ks : List Key) → AllByRecursion (FitsKey W.shapes) ks → (seen : List Pair) → GoIn W.shapes d seen
      → Seeks W (GoIn W.shapes d) (pairs_for d source ks seen)
  entry_pairs_seek source here [] h seen r = found_seeks (GoIn W.shapes d) seen r
  entry_pairs_seek source here (k ∷ ks) h seen r =
      entry_seeks here (λ x g.
      read_seeks (value_storable d k x) (λ u e.
      entry_pairs_seek source here ks h.1 (with_pair k x seen) (pair_with k x seen h.0 g e r)))

-- ---- pairs that are stored

barred_by : (b g l m : Bool) → cond {A = Result (Unit {0}) ErrorName} (b || (g && (l || m))) (Err InvalidAccess) (Ok tt) ≡ Ok tt → g ≡ true → (l ≡ false) × (m ≡ false)
barred_by true g l m e h = cc
barred_by false false l m e h = cc
barred_by false true true m e h = cc
barred_by false true false true e h = cc
barred_by false true false false e h = (refl, refl)

pub not_local : (o : Option Cell) → is_local o ≡ false → key_is_shared o ≡ true
not_local None h = refl
not_local (Some c) h = go (is_global c) h
  where
    go : (b : Bool) → not b ≡ false → b ≡ true
    go true h = refl
    go false h = sym h

pub shared_value : (d : Cell) (o : Option Cell) → key_is_shared o ≡ true → value_is_shared d o ≡ true
shared_value d None h = refl
shared_value d (Some c) h = ap (λ b. b || (is_system_dict d && nat_eq c.section 0)) h

module _ (n : ℕ) (d : Cell) where
  shared : (p : Pair) → storable_entry d (cell_of_key p.key) p.value.kind ≡ Ok tt → is_global d ≡ true → (key_is_shared (cell_of_key p.key) ≡ true) × (value_is_shared d (cell_named p.value.kind) ≡ true)
  shared p e g =
      let b = barred_by (is_barred d) (is_global d) (is_local (cell_of_key p.key)) (is_local (cell_named p.value.kind)) e g in
      (not_local (cell_of_key p.key) b.0, shared_value d (cell_named p.value.kind) (not_local (cell_named p.value.kind) b.1))

  pub pairs_change : (W : World) (Q : World → Type 0) → HasDict W.shapes d → (ps : List Pair) → GoIn W.shapes d ps → Q W → Changes (pair_stores d ps) W n Q
  pairs_change W Q h [] g q = q
  pairs_change W Q h (p ∷ ps) g q = (h.stands, refl, (g.0.key, g.0.value), shared p g.0.storable, pairs_change W Q h ps g.1 q)

-- stores take no names
pub pairs_take_none : (d : Cell) (ps : List Pair) → names_taken (pair_stores d ps) ≡ 0
pairs_take_none d [] = refl
pairs_take_none d (p ∷ ps) = pairs_take_none d ps

-- pairs that fit, fit where more stands
pub pairs_grow : (K J : Shapes) → ((c : Cell) → (K c ≡ None → ⊥) → J c ≡ K c) → (d : Cell) (ps : List Pair) → GoIn K d ps → GoIn J d ps
pairs_grow K J same d [] h = tt
pairs_grow K J same d (p ∷ ps) h =
    let g = found_stays K J same (entry p.key) (is (value.Object p.value)) (h.0.key, h.0.value) in
    (record { key = g.0; value = g.1; storable = h.0.storable }, pairs_grow K J same d ps h.1)
