-- Items of open braces.
use Rattle.std.proofs.Common.{◌≡◌, ℕ, suc, ◌+◌, ◌<◌, ◌≤◌, Bool, true, false, cond, nat_lt, nat_le, List, [], ◌∷◌, ◌++◌, length, map, reverse, Some, None, refl, sym, ap, ◌∙◌, arith}
use Rattle.std.proofs.lemmas.List.{length-reverse, reverse-append, length-append}
use Rattle.ps_names.specs.declared.error_name.ErrorName.TheVariants.{LimitCheck, VmError}
use Rattle.ps_objects.specs.declared.object.Object.{Object}
use Rattle.ps_objects.specs.declared.section.SectionKind.{SectionKind}
use Rattle.ps_kinds.specs.declared.state.State.{State}
use Rattle.ps_meaning.specs.Budgets.{unit_budget}
use Rattle.ps_execution.specs.Gather as meaning
use Rattle.ps_execution.specs.Gather.{Onward, Scanned, scanned, bad}
use Rattle.ps_gather.specs.Gathered.{told, with_brace, IsGathered, Is}
use Rattle.ps_gather.specs.declared.gathering.Gathering.{Gathering}
use Rattle.ps_gather.specs.declared.spelt.Spelt.TheVariants as spelt

less : (a b : ℕ) → a < b → nat_lt a b ≡ true
less a b h = grind arith

not_less : (a b : ℕ) → b ≤ a → nat_lt a b ≡ false
not_less a b h = grind arith

more_less : (a b : ℕ) (t : Bool) → nat_le (a + 1) b ≡ t → nat_lt a b ≡ t
more_less a b true h = grind arith
more_less a b false h = grind arith

-- two tests, one after the other
both_true : {A : Type 0} (p q : Bool) (x y z : A) → p ≡ true → q ≡ true → cond p (cond q x y) z ≡ x
both_true true true x y z e f = refl
both_true true false x y z e f = cc
both_true false q x y z e f = cc

second_false : {A : Type 0} (p q : Bool) (x y z : A) → p ≡ true → q ≡ false → cond p (cond q x y) z ≡ y
second_false true false x y z e f = refl
second_false true true x y z e f = cc
second_false false q x y z e f = cc

first_false : {A : Type 0} (p : Bool) (x z : A) → p ≡ false → cond p x z ≡ z
first_false false x z e = refl
first_false true x z e = cc

reversed_more : (xs : List Object) (x : Object) → reverse (xs ++ x ∷ []) ≡ x ∷ reverse xs
reversed_more xs x = reverse-append xs (x ∷ [])

-- with one more item in the brace
abbrev pub added : Object → List Object → Gathering → Gathering
added x items g = record { cells = g.cells; units = g.units + 1; braces = (items ++ x ∷ []) ∷ g.braces }

module _ (s : State) (x : Object) (items : List Object) (g : Gathering) where
  abbrev before : meaning.Gathering
  before = told s (with_brace items g)

  abbrev on : ℕ → List Object → meaning.Gathering
  on n xs = record before { units = n; open_braces = xs ∷ map reverse g.braces }

  fits : length items < 65535 → nat_lt (length (reverse items)) 65535 ≡ true
  fits h = ap (λ n. nat_lt n 65535) (length-reverse items) ∙ less (length items) 65535 h

  pub item_on : length items < 65535 → nat_le (g.units + 1) (unit_budget s.kind) ≡ true → Is (λ k place. meaning.complete k s x place before) s None (added x items g)
  item_on h e k place =
      both_true (nat_lt (length (reverse items)) 65535) (nat_lt g.units (unit_budget s.kind)) (k place (on (suc g.units) (x ∷ reverse items))) (scanned (bad VmError) place before) (scanned (bad LimitCheck) place before) (fits h) (more_less g.units (unit_budget s.kind) true e)
      ∙ ap (λ n. k place (on n (x ∷ reverse items))) (one g.units)
      ∙ ap (λ xs. k place (on (g.units + 1) xs)) (sym (reversed_more items x))
    where
      one : (n : ℕ) → suc n ≡ n + 1
      one n = omega arith

  pub item_dear : length items < 65535 → nat_le (g.units + 1) (unit_budget s.kind) ≡ false → Is (λ k place. meaning.complete k s x place before) s (Some (spelt.Bad VmError)) g
  item_dear h e k place =
      second_false (nat_lt (length (reverse items)) 65535) (nat_lt g.units (unit_budget s.kind)) (k place (record before { units = suc g.units; open_braces = (x ∷ reverse items) ∷ map reverse g.braces })) (scanned (bad VmError) place before) (scanned (bad LimitCheck) place before) (fits h) (more_less g.units (unit_budget s.kind) false e)

  pub item_long : 65535 ≤ length items → Is (λ k place. meaning.complete k s x place before) s (Some (spelt.Bad LimitCheck)) g
  item_long h k place =
      first_false (nat_lt (length (reverse items)) 65535) (cond (nat_lt g.units (unit_budget s.kind)) (k place (record before { units = suc g.units; open_braces = (x ∷ reverse items) ∷ map reverse g.braces })) (scanned (bad VmError) place before)) (scanned (bad LimitCheck) place before)
      (ap (λ n. nat_lt n 65535) (length-reverse items) ∙ not_less (length items) 65535 h)

  pub item_kept : (kind : SectionKind) → length items < 65535 → nat_le (g.units + 1) (unit_budget kind) ≡ true → IsGathered kind 1 (with_brace items g) → IsGathered kind 0 (added x items g)
  item_kept kind h e r = record {
    cells = r.cells;
    braces = (longer, r.braces.1);
    paid = let p : length g.cells ≤ g.units + 1 = r.paid in omega (arith, p);
    units = within (g.units + 1) (unit_budget kind) e;
  }
    where
      longer : length (items ++ x ∷ []) ≤ 65535
      longer = let q : length (items ++ x ∷ []) ≡ length items + 1 = length-append items (x ∷ []) in omega (arith, q, h)

      within : (a b : ℕ) → nat_le a b ≡ true → a ≤ b
      within a b h = grind arith

  pub left_kept : (kind : SectionKind) → IsGathered kind 1 (with_brace items g) → IsGathered kind 1 g
  left_kept kind r = record { cells = r.cells; braces = r.braces.1; paid = r.paid; units = r.units }

module _ (s : State) (x : Object) (g : Gathering) where
  pub whole_is : g.braces ≡ [] → Is (λ k place. meaning.complete k s x place (told s g)) s (Some (spelt.Object x)) g
  whole_is e k place = ap (λ (xs : List (List Object)). meaning.complete_in k s x place (told s g) (map reverse xs)) e
