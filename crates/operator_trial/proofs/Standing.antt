-- Operands that stand at the start fit the start memory.
use Rattle.std.proofs.Common.{◌≡◌, ℕ, ◌+◌, ◌≤◌, Bool, true, false, not, ◌&&◌, ◌||◌, cond, nat_eq, nat_le, nat_lt, List, [], ◌∷◌, Some, slice_get, drop, refl, sym, ap, ◌∙◌, subst, arith}
use Rattle.std.proofs.lemmas.Bool.Decides.{nat_tests}
use Rattle.std.specs.Cmp.{first_so, second_so}
use Rattle.std.specs.List.{AllByRecursion}
use Rattle.ps_objects.specs.declared.cell.Cell.{Cell}
use Rattle.ps_objects.specs.declared.cell.Space.{Space}
use Rattle.ps_objects.specs.declared.cell.Space.TheVariants.{Local, Global}
use Rattle.ps_objects.specs.declared.object.Kind.{Kind}
use Rattle.ps_objects.specs.declared.object.Kind.TheVariants as kind
use Rattle.ps_objects.specs.declared.object.Object.{Object}
use Rattle.ps_objects.specs.declared.objects.Interval.{Interval}
use Rattle.ps_objects.specs.declared.place.Shape.{Shape}
use Rattle.ps_objects.specs.declared.place.Shape.TheVariants as shape
use Rattle.ps_objects.specs.Object.{cell_named}
use Rattle.ps_memory.specs.Memory.{is_global}
use Rattle.ps_meaning.specs.Fits.{Shapes, FitsCell, FitsObject, takes, lies_within}
use Rattle.ps_meaning.specs.Sound.{StartStands}
use Rattle.ps_operator.proofs.LookSteps.{drop_at_get}
use Rattle.operator_trial.specs.Start.{is_start_cell, stands, all_stand}

-- the local cell of section 0 with this count
abbrev start_cell : ℕ → Cell
start_cell n = record { section = 0; count = n; space = Local }

equal_numbers : (a b : ℕ) → nat_eq a b ≡ true → a ≡ b
equal_numbers a b h = grind (arith, nat_tests)

is_cell : (n : ℕ) (c : Cell) → is_start_cell n c ≡ true → c ≡ start_cell n
is_cell n c h =
    let both : (nat_eq c.section 0 && nat_eq c.count n) ≡ true = first_so (nat_eq c.section 0 && nat_eq c.count n) (not (is_global c)) h in
    by c.section c.count c.space (equal_numbers c.section 0 (first_so (nat_eq c.section 0) (nat_eq c.count n) both)) (equal_numbers c.count n (second_so (nat_eq c.section 0) (nat_eq c.count n) both))
    (second_so (nat_eq c.section 0 && nat_eq c.count n) (not (is_global c)) h)
  where
    by : (s k : ℕ) (p : Space) → s ≡ 0 → k ≡ n → not (is_global (record { section = s; count = k; space = p })) ≡ true → record { section = s; count = k; space = p } ≡ start_cell n
    by s k Local e g h = (λ i. record { section = e i; count = g i; space = Local })
    by s k Global e g h = cc

module _ (K : Shapes) (start : StartStands K) where
  version_there : K (start_cell 8) ≡ Some (shape.Str 8)
  version_there = start.1.1.1.1.1.1.1.1.0

  dash_there : K (start_cell 10) ≡ Some (shape.Array 0)
  dash_there = start.1.1.1.1.1.1.1.1.1.1.0

  user_there : K (start_cell 2) ≡ Some (shape.Dict 0)
  user_there = start.1.1.0

  errors_there : K (start_cell 3) ≡ Some (shape.Dict 0)
  errors_there = start.1.1.1.0

  within : (start len : ℕ) → nat_le (start + len) 8 ≡ true → lies_within start len 8 ≡ true
  within start len h = grind (arith, nat_tests)

  none_within : (start len : ℕ) → start ≡ 0 → len ≡ 0 → lies_within start len 0 ≡ true
  none_within start len a b = grind (arith, nat_tests)

  string_fits : (a : Interval) → stands (kind.Str a) ≡ true → FitsCell K (Some a.cell) (takes (kind.Str a))
  string_fits a h =
      let last : nat_le (a.start + a.len) 8 ≡ true = second_so (is_start_cell 8 a.cell && nat_le a.start 8 && nat_le a.len 8) (nat_le (a.start + a.len) 8) h in
      let some : (is_start_cell 8 a.cell && nat_le a.start 8 && nat_le a.len 8) ≡ true = first_so (is_start_cell 8 a.cell && nat_le a.start 8 && nat_le a.len 8) (nat_le (a.start + a.len) 8) h in
      let few : (is_start_cell 8 a.cell && nat_le a.start 8) ≡ true = first_so (is_start_cell 8 a.cell && nat_le a.start 8) (nat_le a.len 8) some in
      let one : is_start_cell 8 a.cell ≡ true = first_so (is_start_cell 8 a.cell) (nat_le a.start 8) few in
      (shape.Str 8, ap K (is_cell 8 a.cell one) ∙ version_there, within a.start a.len last)

  array_fits : (a : Interval) (packed : Bool) → stands (kind.Array a packed) ≡ true → FitsCell K (Some a.cell) (takes (kind.Array a packed))
  array_fits a packed h =
      let some : (is_start_cell 10 a.cell && nat_eq a.start 0) ≡ true = first_so (is_start_cell 10 a.cell && nat_eq a.start 0) (nat_eq a.len 0) h in (
        shape.Array 0,
        ap K (is_cell 10 a.cell (first_so (is_start_cell 10 a.cell) (nat_eq a.start 0) some)) ∙ dash_there,
        none_within a.start a.len (equal_numbers a.start 0 (second_so (is_start_cell 10 a.cell) (nat_eq a.start 0) some)) (equal_numbers a.len 0 (second_so (is_start_cell 10 a.cell && nat_eq a.start 0) (nat_eq a.len 0) h)),
      )

  dict_fits : (c : Cell) → stands (kind.Dict c) ≡ true → FitsCell K (Some c) (takes (kind.Dict c))
  dict_fits c h = go (is_start_cell 2 c) refl h
    where
      go : (b : Bool) → is_start_cell 2 c ≡ b → (b || is_start_cell 3 c) ≡ true → FitsCell K (Some c) (takes (kind.Dict c))
      go true e h = (shape.Dict 0, ap K (is_cell 2 c e) ∙ user_there, refl)
      go false e h = (shape.Dict 0, ap K (is_cell 3 c h) ∙ errors_there, refl)

  kind_fits : (k : Kind) → stands k ≡ true → FitsCell K (cell_named k) (takes k)
  kind_fits (kind.Str a) h = string_fits a h
  kind_fits (kind.Array a packed) h = array_fits a packed h
  kind_fits (kind.Dict c) h = dict_fits c h
  kind_fits _ h = tt

  pub all_fit : (xs : List Object) → all_stand xs ≡ true → AllByRecursion (FitsObject K) xs
  all_fit [] h = tt
  all_fit (x ∷ xs) h = (kind_fits x.kind (first_so (stands x.kind) (all_stand xs) h), all_fit xs (second_so (stands x.kind) (all_stand xs) h))

-- ---- steps of the loop that asks

pub stand_hit : (xs : List Object) (i : ℕ) (x : Object) → slice_get xs i ≡ Some x → stands x.kind ≡ false → all_stand (drop i xs) ≡ false
stand_hit xs i x e h = ap all_stand (drop_at_get xs i x e) ∙ ap (λ b. b && all_stand (drop (i + 1) xs)) h

pub stand_miss : (xs : List Object) (i : ℕ) (x : Object) → slice_get xs i ≡ Some x → stands x.kind ≡ true → all_stand (drop i xs) ≡ all_stand (drop (i + 1) xs)
stand_miss xs i x e h = ap all_stand (drop_at_get xs i x e) ∙ ap (λ b. b && all_stand (drop (i + 1) xs)) h
