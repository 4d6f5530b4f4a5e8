-- What a sound state's registers name stands.
use Rattle.std.proofs.Common.{◌≡◌, ℕ, zero, suc, Bool, true, false, ◌&&◌, List, [], ◌∷◌, Option, Some, Result, Ok, length, refl, sym, ap, ◌∙◌, subst, true≢false}
use Rattle.std.specs.List.{AllByRecursion}
use Rattle.std.specs.FinMap.{get}
use Rattle.ps_objects.specs.Object.{cell_named}
use Rattle.ps_objects.specs.declared.cell.Cell.{Cell}
use Rattle.ps_names.specs.declared.error_name.ErrorName.{ErrorName}
use Rattle.ps_objects.specs.declared.key.Key.{Key}
use Rattle.ps_objects.specs.declared.key.Key.TheVariants as key
use Rattle.ps_objects.specs.declared.key.KeyForm.{KeyForm}
use Rattle.ps_objects.specs.declared.key.KeyForm.TheVariants as form
use Rattle.ps_objects.specs.declared.object.Kind.{Kind}
use Rattle.ps_objects.specs.declared.object.Kind.TheVariants as kind
use Rattle.ps_objects.specs.declared.object.Object.{Object}
use Rattle.ps_objects.specs.declared.objects.Interval.{Interval}
use Rattle.ps_objects.specs.declared.place.Shape.{Shape}
use Rattle.ps_objects.specs.declared.place.Shape.TheVariants as shape
use Rattle.ps_objects.specs.Key.{real_key, key_form_of, key_form_at}
use Rattle.ps_objects.specs.Operands.{object_at, operand, typed, dict_of, dict_at, array_of, array_at, string_of, string_at, procedure_of, procedure_at}
use Rattle.ps_kinds.specs.declared.state.State.{State}
use Rattle.ps_objects.specs.declared.place.Value.TheVariants as value
use Rattle.ps_memory.specs.Memory.{Memory, rand, is_kind, shape_at}
use Rattle.ps_meaning.specs.Fits.{takes, lies_within, FitsCell, FitsObject, IsDict}
use Rattle.ps_meaning.specs.Sound.{StringFits}
use Rattle.ps_meaning.specs.Registers.{user_dict}
use Rattle.vm_mem.specs.Conditions.{is_here, page_is_here}
use Rattle.ps_operator.specs.Standing.{is_dict_shape, has_items, has_bytes, is_dict, is_array, is_string, is_named, is_form, are_dicts, rand_stands}
use Rattle.ps_meaning.specs.Ready.{Ready}
use Rattle.ps_operator.specs.Registers.{current}

both : (a b : Bool) → a ≡ true → b ≡ true → (a && b) ≡ true
both a b p q = ap (λ x. x && b) p ∙ q

-- the operand that a reader read
typed_from : {A : Type 0} (f : Kind → Result A ErrorName) (i : ℕ) (xs : List Object) (a : A) → typed f i xs ≡ Ok a → (x : Object) × (object_at i xs ≡ Ok x) × (f x.kind ≡ Ok a)
typed_from f i [] a e = cc
typed_from f zero (y ∷ ys) a e = (y, refl, e)
typed_from f (suc i) (y ∷ ys) a e = typed_from f i ys a e

read_from : {A : Type 0} (f : Object → Result A ErrorName) (i : ℕ) (xs : List Object) (a : A) → operand f i xs ≡ Ok a → (x : Object) × (object_at i xs ≡ Ok x) × (f x ≡ Ok a)
read_from f i [] a e = cc
read_from f zero (y ∷ ys) a e = (y, refl, e)
read_from f (suc i) (y ∷ ys) a e = read_from f i ys a e

module _ (s : State) (M : Memory) (r : Ready s M) where
  pub page_stands : page_is_here M ≡ true
  unfolding page_is_here
  page_stands = ap is_here r.memory.page.1

  pub random_stands : rand_stands M ≡ true
  unfolding rand_stands
  random_stands = both (page_is_here M) (is_kind rand (value.Rand M.rand)) page_stands r.memory.rand

  -- ---- what fits stands

  dict_here : (d : Cell) → IsDict (shape_at M) d → is_dict M d ≡ true
  unfolding is_dict
  dict_here d h = both (page_is_here M) (is_dict_shape (shape_at M d)) page_stands (ap is_dict_shape h.1)

  items_here : (a : Interval) (sh : Shape) (packed : Bool) → shape_at M a.cell ≡ Some sh → takes (kind.Array a packed) sh ≡ true → is_array M a ≡ true
  unfolding is_array
  items_here a (shape.Array n) packed e h = both (page_is_here M) (has_items a.start a.len (shape_at M a.cell)) page_stands (ap (has_items a.start a.len) e ∙ h)
  items_here a (shape.Str n) packed e h = absurd (true≢false (sym h))
  items_here a (shape.Dict n) packed e h = absurd (true≢false (sym h))

  bytes_there : (start len n : ℕ) (o : Option (List ℕ)) → StringFits (Some (shape.Str n)) o → lies_within start len n ≡ true → has_bytes start len (Some (shape.Str n)) o ≡ true
  bytes_there start len n o f h = ap (has_bytes start len (Some (shape.Str n))) f.1 ∙ both (lies_within start len n) (lies_within start len (length f.0)) h (subst (λ m. lies_within start len m ≡ true) (sym f.2) h)

  bytes_here : (a : Interval) (sh : Shape) → shape_at M a.cell ≡ Some sh → takes (kind.Str a) sh ≡ true → is_string M a ≡ true
  unfolding is_string
  bytes_here a (shape.Str n) e h =
      both (page_is_here M) (has_bytes a.start a.len (shape_at M a.cell) (get M.strings a.cell)) page_stands
      (ap (λ o. has_bytes a.start a.len o (get M.strings a.cell)) e ∙ bytes_there a.start a.len n (get M.strings a.cell) (subst (λ o. StringFits o (get M.strings a.cell)) e (r.memory.strings a.cell)) h)
  bytes_here a (shape.Array n) e h = absurd (true≢false (sym h))
  bytes_here a (shape.Dict n) e h = absurd (true≢false (sym h))

  dict_fits : (c : Cell) (sh : Shape) → shape_at M c ≡ Some sh → takes (kind.Dict c) sh ≡ true → is_dict M c ≡ true
  dict_fits c (shape.Dict n) e h = dict_here c (n, e)
  dict_fits c (shape.Array n) e h = absurd (true≢false (sym h))
  dict_fits c (shape.Str n) e h = absurd (true≢false (sym h))

  pub named : (k : Kind) → FitsCell (shape_at M) (cell_named k) (takes k) → is_named M k ≡ true
  named (kind.Str part) f = bytes_here part f.0 f.1 f.2
  named (kind.Array part packed) f = items_here part f.0 packed f.1 f.2
  named (kind.Dict c) f = dict_fits c f.0 f.1 f.2
  named _ f = page_stands

  -- ---- operands

  fits_among : (xs : List Object) (i : ℕ) (x : Object) → AllByRecursion (FitsObject (shape_at M)) xs → object_at i xs ≡ Ok x → is_named M x.kind ≡ true
  fits_among [] i x h e = cc
  fits_among (y ∷ ys) zero x h e = let p : y ≡ x = cc in subst (λ (z : Object). is_named M z.kind ≡ true) p (named y.kind h.0)
  fits_among (y ∷ ys) (suc i) x h e = fits_among ys i x h.1 e

  pub object_stands : (i : ℕ) (x : Object) → object_at i s.regs.operands ≡ Ok x → is_named M x.kind ≡ true
  object_stands i x e = fits_among s.regs.operands i x r.state.registers.operands e

  dict_is : (k : Kind) (d : Cell) → is_named M k ≡ true → dict_of k ≡ Ok d → is_dict M d ≡ true
  dict_is (kind.Dict c) d h e = let p : c ≡ d = cc in subst (λ c. is_dict M c ≡ true) p h
  dict_is _ d h e = cc

  array_is : (k : Kind) (a : Interval) → is_named M k ≡ true → array_of k ≡ Ok a → is_array M a ≡ true
  array_is (kind.Array part packed) a h e = let p : part ≡ a = cc in subst (λ a. is_array M a ≡ true) p h
  array_is _ a h e = cc

  string_is : (k : Kind) (a : Interval) → is_named M k ≡ true → string_of k ≡ Ok a → is_string M a ≡ true
  string_is (kind.Str part) a h e = let p : part ≡ a = cc in subst (λ a. is_string M a ≡ true) p h
  string_is _ a h e = cc

  procedure_is : (x : Object) (exec : Bool) (a : Interval) → is_named M x.kind ≡ true → procedure_of (record x { exec = exec }) ≡ Ok a → is_array M a ≡ true
  procedure_is x true a h e = array_is x.kind a h e
  procedure_is x false a h e = cc

  key_is : (j : Key) (f : KeyForm) → form.Key j ≡ f → is_form M f ≡ true
  key_is j f p = subst (λ f. is_form M f ≡ true) p page_stands

  form_is : (k : Kind) (f : KeyForm) → is_named M k ≡ true → key_form_of k ≡ Ok f → is_form M f ≡ true
  form_is (kind.Str part) f h e = let p : form.Text part ≡ f = cc in subst (λ f. is_form M f ≡ true) p h
  form_is (kind.Integer n) f h e = key_is (key.Integer n) f cc
  form_is (kind.Real x) f h e = key_is (real_key x) f cc
  form_is (kind.Boolean b) f h e = key_is (key.Boolean b) f cc
  form_is kind.Null f h e = cc
  form_is kind.Mark f h e = key_is key.Mark f cc
  form_is (kind.Name n) f h e = key_is (key.Name n) f cc
  form_is (kind.Operator n) f h e = key_is (key.Operator n) f cc
  form_is (kind.Array part packed) f h e = key_is (key.Array part packed) f cc
  form_is (kind.Dict c) f h e = key_is (key.Dict c) f cc
  form_is (kind.File n) f h e = key_is (key.File n 0) f cc
  form_is (kind.Filter n m) f h e = key_is (key.File n m) f cc
  form_is (kind.Save q) f h e = key_is (key.Save q) f cc
  form_is (kind.FontId c) f h e = key_is (key.FontId c) f cc

  pub dict_stands : (i : ℕ) (d : Cell) → dict_at i s.regs.operands ≡ Ok d → is_dict M d ≡ true
  dict_stands i d e = let (x, p, q) = typed_from dict_of i s.regs.operands d e in dict_is x.kind d (object_stands i x p) q

  pub array_stands : (i : ℕ) (a : Interval) → array_at i s.regs.operands ≡ Ok a → is_array M a ≡ true
  array_stands i a e = let (x, p, q) = typed_from array_of i s.regs.operands a e in array_is x.kind a (object_stands i x p) q

  pub string_stands : (i : ℕ) (a : Interval) → string_at i s.regs.operands ≡ Ok a → is_string M a ≡ true
  string_stands i a e = let (x, p, q) = typed_from string_of i s.regs.operands a e in string_is x.kind a (object_stands i x p) q

  pub procedure_stands : (i : ℕ) (a : Interval) → procedure_at i s.regs.operands ≡ Ok a → is_array M a ≡ true
  procedure_stands i a e = let (x, p, q) = read_from procedure_of i s.regs.operands a e in procedure_is x x.exec a (object_stands i x p) q

  pub form_stands : (i : ℕ) (f : KeyForm) → key_form_at i s.regs.operands ≡ Ok f → is_form M f ≡ true
  form_stands i f e = let (x, p, q) = typed_from key_form_of i s.regs.operands f e in form_is x.kind f (object_stands i x p) q

  -- ---- the dictionary stack

  all_dicts : (ds : List Cell) → AllByRecursion (IsDict (shape_at M)) ds → are_dicts M ds ≡ true
  all_dicts [] h = page_stands
  all_dicts (d ∷ ds) h = both (is_dict M d) (are_dicts M ds) (dict_here d h.0) (all_dicts ds h.1)

  pub dicts_stand : are_dicts M s.regs.dicts ≡ true
  dicts_stand = all_dicts s.regs.dicts r.state.registers.dicts

  user_dict_stands : is_dict M user_dict ≡ true
  user_dict_stands = dict_here user_dict (0, r.memory.start.1.1.0)

  current_is : (ds : List Cell) → AllByRecursion (IsDict (shape_at M)) ds → is_dict M (current ds) ≡ true
  current_is [] h = user_dict_stands
  current_is (d ∷ ds) h = dict_here d h.0

  pub current_stands : is_dict M (current s.regs.dicts) ≡ true
  current_stands = current_is s.regs.dicts r.state.registers.dicts
