-- Operands that lie below the newest few: loops over them, and how many they are.
use Rattle.std.proofs.Common.{◌≡◌, ℕ, ◌+◌, ◌-◌, ◌<◌, ◌≤◌, Bool, true, false, cond, nat_lt, List, take, drop, length, Some, slice_get, Result, Ok, Err, refl, sym, ap, ◌∙◌, arith}
use Rattle.std.specs.Prelude.{get_or}
use Rattle.std.proofs.lemmas.List.{length-take-le, length-drop, length-reverse, get_or-take, get_or-drop, get_or-reverse, drop_all}
use Rattle.std.proofs.lemmas.Option.{slice_get-get_or, get_or_from_slice_get}
use Rattle.ps_names.specs.declared.error_name.ErrorName.{ErrorName}
use Rattle.ps_names.specs.declared.error_name.ErrorName.TheVariants.{VmError}
use Rattle.ps_objects.specs.declared.object.Object.{Object}
use Rattle.ps_objects.specs.declared.objects.Interval.{Interval}
use Rattle.ps_objects.specs.declared.place.Loc.TheVariants as loc
use Rattle.ps_objects.specs.declared.place.Value.TheVariants as value
use Rattle.ps_objects.specs.declared.section.SectionKind.{SectionKind}
use Rattle.ps_objects.specs.declared.section.SectionKind.TheVariants as section
use Rattle.ps_memory.specs.Memory.{store}
use Rattle.ps_meaning.specs.Answer.{Log, acted_in, changed_in}
use Rattle.ps_meaning.specs.Budgets.{unit_budget}
use Rattle.ps_operator.specs.Budgets.{unit_room}
use Rattle.ps_operator.specs.Registers.{any_of}
use Rattle.ps_operator.specs.Storing.{item_stores}
use Rattle.ps_operator.proofs.StoreSteps.{any_hit, any_miss, item_step, item_end}
use Rattle.array_ops.specs.Making.{taken}

module _ (below n : ℕ) (xs : List Object) (h : below + n ≤ length xs) where
  abbrev chosen : List Object
  chosen = take n (drop below xs)

  pub chosen_count : length (take n (drop below xs)) ≡ n
  chosen_count = length-take-le n (drop below xs) enough
    where
      enough : n ≤ length (drop below xs)
      enough = let p : length (drop below xs) ≡ length xs - below = length-drop below xs in omega (arith, p, h)

  chosen_at : (i : ℕ) (x : Object) → i < n → get_or xs (below + i) x ≡ x → get_or (take n (drop below xs)) i x ≡ x
  chosen_at i x l e = get_or-take n (drop below xs) i x l ∙ get_or-drop below xs i x ∙ e

  chosen_get : (i : ℕ) (x : Object) → i < n → slice_get xs (below + i) ≡ Some x → slice_get (take n (drop below xs)) i ≡ Some x
  chosen_get i x l e =
      let p : length (take n (drop below xs)) ≡ n = chosen_count in
      slice_get-get_or (take n (drop below xs)) i x (omega (arith, p, l)) ∙ ap Some (chosen_at i x l (get_or_from_slice_get xs (below + i) x x e))

  -- ---- a search

  pub run_hit : (p : Object → Bool) (i : ℕ) (x : Object) → i < n → slice_get xs (below + i) ≡ Some x → p x ≡ true → any_of p (drop i (take n (drop below xs))) ≡ true
  run_hit p i x l e g = any_hit p (take n (drop below xs)) i x (chosen_get i x l e) g

  pub run_miss : (p : Object → Bool) (i : ℕ) (x : Object) → i < n → slice_get xs (below + i) ≡ Some x → p x ≡ false → any_of p (drop i (take n (drop below xs))) ≡ any_of p (drop (i + 1) (take n (drop below xs)))
  run_miss p i x l e g = any_miss p (take n (drop below xs)) i x (chosen_get i x l e) g

  pub run_end : (p : Object → Bool) (i : ℕ) → i ≡ n → any_of p (drop i (take n (drop below xs))) ≡ false
  run_end p i e = let q : length (take n (drop below xs)) ≡ n = chosen_count in ap (any_of p) (drop_all i (take n (drop below xs)) (omega (arith, e, q)))

  -- ---- stores of them, the lowest first

  taken_get : (past i : ℕ) (x : Object) → past ≡ below + n → i < n → slice_get xs (past - 1 - i) ≡ Some x → slice_get (taken below n xs) i ≡ Some x
  taken_get past i x q l e =
      let c : length (take n (drop below xs)) ≡ n = chosen_count in
      let j : ℕ = n - 1 - i in
      let m : past - 1 - i ≡ below + j = omega (arith, q, l) in
      let a : get_or xs (below + j) x ≡ x = ap (λ m. get_or xs m x) (sym m) ∙ get_or_from_slice_get xs (past - 1 - i) x x e in
      let b : get_or (take n (drop below xs)) j x ≡ x = chosen_at j x (omega (arith, l)) a in
      let d : i < length (take n (drop below xs)) = omega (arith, c, l) in
      let g : i < length (taken below n xs) = rw length-reverse d in
      slice_get-get_or (taken below n xs) i x g
      ∙ ap Some (get_or-reverse (take n (drop below xs)) i x d ∙ ap (λ m. get_or (take n (drop below xs)) (m - 1 - i) x) c ∙ b)

  none : (i : ℕ) → 0 + i ≡ i
  none i = omega arith

  pub gather_step : (a : Interval) (past i : ℕ) (x : Object) (log new : Log) → past ≡ below + n → i < n → slice_get xs (past - 1 - i) ≡ Some x
      → new ≡ acted_in log (store (loc.Item a.cell (a.start + i)) (value.Object x))
      → changed_in log (item_stores a i (drop i (taken below n xs))) ≡ changed_in new (item_stores a (i + 1) (drop (i + 1) (taken below n xs)))
  gather_step a past i x log new q l e g =
      ap (λ m. changed_in log (item_stores a m (drop i (taken below n xs)))) (sym (none i))
      ∙ item_step a 0 i (taken below n xs) x log new (taken_get past i x q l e) (g ∙ ap (λ m. acted_in log (store (loc.Item a.cell (a.start + m)) (value.Object x))) (sym (none i)))
      ∙ ap (λ m. changed_in new (item_stores a m (drop (i + 1) (taken below n xs)))) (none (i + 1))

  pub gather_end : (a : Interval) (i : ℕ) (log : Log) → i ≡ n → changed_in log (item_stores a i (drop i (taken below n xs))) ≡ log
  gather_end a i log e =
      ap (λ m. changed_in log (item_stores a m (drop i (taken below n xs)))) (sym (none i))
      ∙ item_end a 0 i (taken below n xs) log (e ∙ sym (length-reverse (take n (drop below xs)) ∙ chosen_count))

-- ---- units

budget_small : (k : SectionKind) → unit_budget k < 4294967296
budget_small section.Page = omega arith
budget_small section.Prolog = omega arith
budget_small section.Setup = omega arith
budget_small section.Trailer = omega arith

room_by : (b m : ℕ) (t : Bool) → nat_lt b m ≡ t → cond {A = Result (Unit {0}) ErrorName} t (Err VmError) (Ok tt) ≡ Ok tt → m ≤ b
room_by b m true p q = cc
room_by b m false p q = grind arith

-- as many as there are units for
pub room_small : (k : SectionKind) (units n : ℕ) → unit_room k units n ≡ Ok tt → n < 4294967296
room_small k units n e =
    let a : units + n ≤ unit_budget k = room_by (unit_budget k) (units + n) (nat_lt (unit_budget k) (units + n)) refl e in
    let b : unit_budget k < 4294967296 = budget_small k in
    omega (arith, a, b)
