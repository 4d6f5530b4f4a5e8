-- Steps of the loops that read pairs, and what the stages of pairs say.
use Rattle.std.proofs.Common.{◌≡◌, ℕ, zero, suc, ◌+◌, ◌-◌, ◌*◌, ◌/◌, ◌%◌, ◌<◌, ◌≤◌, Bool, true, false, cond, nat_eq, nat_lt, List, [], ◌∷◌, ◌++◌, drop, length, map, reverse, Option, Some, None, slice_get, Result, Ok, Err, refl, sym, ap, ◌∙◌, subst, add-one, arith}
use Rattle.std.proofs.lemmas.List.{length-reverse, length-map}
use Rattle.ps_names.specs.declared.error_name.ErrorName.{ErrorName}
use Rattle.ps_names.specs.declared.error_name.ErrorName.TheVariants.{RangeCheck, VmError}
use Rattle.ps_objects.specs.declared.cell.Cell.{Cell}
use Rattle.ps_objects.specs.declared.key.Key.{Key}
use Rattle.ps_objects.specs.declared.key.KeyForm.{KeyForm}
use Rattle.ps_objects.specs.declared.key.KeyForm.TheVariants as form
use Rattle.ps_objects.specs.declared.object.Kind.{Kind}
use Rattle.ps_objects.specs.declared.object.Kind.TheVariants as kind
use Rattle.ps_objects.specs.declared.object.Object.{Object}
use Rattle.ps_objects.specs.declared.objects.Interval.{Interval}
use Rattle.ps_objects.specs.declared.section.SectionKind.{SectionKind}
use Rattle.ps_objects.specs.declared.section.SectionKind.TheVariants as section
use Rattle.ps_objects.specs.Key.{key_form_of, key_form_at}
use Rattle.ps_objects.specs.Operands.{object_at, typed}
use Rattle.ps_kinds.specs.declared.frame.Pair.{Pair}
use Rattle.ps_memory.specs.Tree.{Application}
use Rattle.ps_meaning.specs.Answer.{Log}
use Rattle.ps_meaning.specs.Budgets.{unit_budget}
use Rattle.ps_operator.specs.Budgets.{unit_room}
use Rattle.ps_operator.specs.Keys.{key_length, key_of}
use Rattle.ps_operator.specs.Registers.{literal}
use Rattle.ps_operator.specs.Tree.{Reading, read, reads, look_then, went_on}
use Rattle.ps_operator.proofs.Then.{reads_then}
use Rattle.ps_operator.proofs.LookSteps.{drop_at_get}
use Rattle.dict_ops.specs.Pairs.{pairs_in, then_read, key_depth, value_depth, short_key, passes, each_passes, all_pass, pairs_from}
use Rattle.dict_ops.specs.Stack.{stack_objects, holds}
use Rattle.dict_ops.specs.declared.pairs.Stage.{Stage}
use Rattle.dict_ops.specs.declared.pairs.Stage.TheVariants as stage
use Rattle.dict_ops.proofs.Pairing.{first_read}

-- ---- a pair that passes a stage, and one that doesn't

one_left : (i n : ℕ) → i < n → n - i ≡ suc (n - (i + 1))
one_left i n l = omega arith

pub pass_step : (t : Stage) (xs : List Object) (i n : ℕ) → i < n → passes t xs i ≡ Ok tt → each_passes t xs i (n - i) ≡ each_passes t xs (i + 1) (n - (i + 1))
pass_step t xs i n l h = ap (each_passes t xs i) (one_left i n l) ∙ ap (λ r. then_read r (λ _. each_passes t xs (i + 1) (n - (i + 1)))) h

pub pass_refused : (t : Stage) (xs : List Object) (i n : ℕ) (e : ErrorName) → i < n → passes t xs i ≡ Err e → each_passes t xs i (n - i) ≡ Err e
pass_refused t xs i n e l h = ap (each_passes t xs i) (one_left i n l) ∙ ap (λ r. then_read r (λ _. each_passes t xs (i + 1) (n - (i + 1)))) h

-- ---- a pair that is read

module _ (xs : List Object) (i n : ℕ) (seen : List Pair) (log : Log) (l : i < n) where
  abbrev rest : Key → Object → Application (List Pair)
  rest k x = pairs_from xs (i + 1) (n - (i + 1)) (record { key = k; value = x } ∷ seen)

  abbrev goes_on : Result KeyForm ErrorName → Result Object ErrorName → Application (List Pair)
  goes_on f x = read f (λ f. read x (λ x. look_then (key_of f) (λ k. rest k x)))

  begins : reads (pairs_from xs i (n - i) seen) log ≡ reads (goes_on (key_form_at (key_depth i) xs) (object_at (value_depth i) xs)) log
  begins = ap (λ m. reads (pairs_from xs i m seen) log) (one_left i n l)

  pub pair_step : (f : KeyForm) (x : Object) (k : Key) (new : Log) → key_form_at (key_depth i) xs ≡ Ok f → object_at (value_depth i) xs ≡ Ok x → reads (key_of f) log ≡ record { outcome = Ok k; log = new }
      → reads (pairs_from xs i (n - i) seen) log ≡ reads (pairs_from xs (i + 1) (n - (i + 1)) (record { key = k; value = x } ∷ seen)) new
  pair_step f x k new p q h =
      begins
      ∙ ap (λ r. reads (goes_on r (object_at (value_depth i) xs)) log) p
      ∙ ap (λ r. reads (goes_on (Ok f) r) log) q
      ∙ reads_then (key_of f) (λ k. rest k x) log
      ∙ ap (λ r. went_on r (λ k. rest k x)) h

  pub form_refused : (e : ErrorName) → key_form_at (key_depth i) xs ≡ Err e → reads (pairs_from xs i (n - i) seen) log ≡ record { outcome = Err e; log = log }
  form_refused e p = begins ∙ ap (λ r. reads (goes_on r (object_at (value_depth i) xs)) log) p

  pub value_refused : (f : KeyForm) (e : ErrorName) → key_form_at (key_depth i) xs ≡ Ok f → object_at (value_depth i) xs ≡ Err e → reads (pairs_from xs i (n - i) seen) log ≡ record { outcome = Err e; log = log }
  value_refused f e p q = begins ∙ ap (λ r. reads (goes_on r (object_at (value_depth i) xs)) log) p ∙ ap (λ r. reads (goes_on (Ok f) r) log) q

-- ---- keys that are short enough

short_form_of : (k : Kind) (f : KeyForm) → key_form_of k ≡ Ok f → short_key k ≡ Ok tt → key_length f ≡ Ok tt
short_form_of (kind.Str a) f e h = let p : form.Text a ≡ f = cc in subst (λ f. key_length f ≡ Ok tt) p h
short_form_of kind.Null f e h = cc
short_form_of (kind.Integer n) f e h = cc
short_form_of (kind.Real x) f e h = cc
short_form_of (kind.Boolean b) f e h = cc
short_form_of kind.Mark f e h = cc
short_form_of (kind.Name n) f e h = cc
short_form_of (kind.Operator n) f e h = cc
short_form_of (kind.Array a packed) f e h = cc
short_form_of (kind.Dict c) f e h = cc
short_form_of (kind.File n) f e h = cc
short_form_of (kind.Filter n m) f e h = cc
short_form_of (kind.Save q) f e h = cc
short_form_of (kind.FontId c) f e h = cc

short_at : (xs : List Object) (depth : ℕ) (f : KeyForm) → key_form_at depth xs ≡ Ok f → typed short_key depth xs ≡ Ok tt → key_length f ≡ Ok tt
short_at [] depth f e h = cc
short_at (x ∷ xs) zero f e h = short_form_of x.kind f e h
short_at (x ∷ xs) (suc depth) f e h = short_at xs depth f e h

each_short : (xs : List Object) (at n j : ℕ) → each_passes stage.Short xs at n ≡ Ok tt → j < n → passes stage.Short xs (at + j) ≡ Ok tt
each_short xs at zero j h l = absurd (omega (arith, l))
each_short xs at (suc n) zero h l =
    let a = first_read (passes stage.Short xs at) (λ _. each_passes stage.Short xs (at + 1) n) tt h in
    let e : at ≡ at + 0 = omega arith in
    subst (λ m. passes stage.Short xs m ≡ Ok tt) e a.1
each_short xs at (suc n) (suc j) h l =
    let a = first_read (passes stage.Short xs at) (λ _. each_passes stage.Short xs (at + 1) n) tt h in
    let e : at + 1 + j ≡ at + suc j = omega arith in
    subst (λ m. passes stage.Short xs m ≡ Ok tt) e (each_short xs (at + 1) n j a.2 (omega (arith, l)))

pub short_form : (xs : List Object) (n i : ℕ) (f : KeyForm) → all_pass stage.Short xs n ≡ Ok tt → i < n → key_form_at (key_depth i) xs ≡ Ok f → key_length f ≡ Ok tt
short_form xs n i f h l e =
    let p : 0 + i ≡ i = omega arith in
    short_at xs (key_depth i) f e (subst (λ m. passes stage.Short xs m ≡ Ok tt) p (each_short xs 0 n i h l))

-- ---- numbers

half_by : (n m : ℕ) (t : Bool) → cond {A = Result ℕ ErrorName} t (Ok (n / 2)) (Err RangeCheck) ≡ Ok m → m * 2 ≤ n
half_by n m true e = let p : n / 2 ≡ m = cc in omega (arith, p)
half_by n m false e = cc

pub half_within : (n m : ℕ) → pairs_in n ≡ Ok m → m * 2 ≤ n
half_within n m e = half_by n m (nat_eq (n % 2) 0) e

budget_small : (k : SectionKind) → unit_budget k < 4294967296
budget_small section.Page = omega arith
budget_small section.Prolog = omega arith
budget_small section.Setup = omega arith
budget_small section.Trailer = omega arith

room_by : (b m : ℕ) (t : Bool) → nat_lt b m ≡ t → cond {A = Result (Unit {0}) ErrorName} t (Err VmError) (Ok tt) ≡ Ok tt → m ≤ b
room_by b m true p q = cc
room_by b m false p q = grind arith

pub room_small : (k : SectionKind) (units n : ℕ) → unit_room k units n ≡ Ok tt → n < 4294967296
room_small k units n e =
    let a : units + n ≤ unit_budget k = room_by (unit_budget k) (units + n) (nat_lt (unit_budget k) (units + n)) refl e in
    let b : unit_budget k < 4294967296 = budget_small k in
    omega (arith, a, b)

holds_by : (len n : ℕ) (t : Bool) → nat_lt len n ≡ t → cond {A = Result (Unit {0}) ErrorName} t (Err RangeCheck) (Ok tt) ≡ Ok tt → n ≤ len
holds_by len n true p e = cc
holds_by len n false p e = grind arith

-- an array that holds the dictionaries is as long as there are
pub holds_all : (a : Interval) (ds : List Cell) → holds a ds ≡ Ok tt → length ds ≤ a.len
holds_all a ds e = holds_by a.len (length ds) (nat_lt a.len (length ds)) refl e

pub objects_count : (ds : List Cell) → length (stack_objects ds) ≡ length ds
objects_count ds = length-reverse (map (λ d. literal (kind.Dict d)) ds) ∙ length-map ds (λ d. literal (kind.Dict d))

pub objects_within : (a : Interval) (ds : List Cell) → holds a ds ≡ Ok tt → 0 + length (stack_objects ds) ≤ a.len
objects_within a ds e = let p : length ds ≤ a.len = holds_all a ds e in let q : length (stack_objects ds) ≡ length ds = objects_count ds in omega (arith, p, q)
