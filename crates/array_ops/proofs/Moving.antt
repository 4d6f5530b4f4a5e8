-- Steps of the loops that look at items.
use Rattle.std.proofs.Common.{◌≡◌, ℕ, suc, ◌+◌, ◌-◌, ◌<◌, List, [], ◌∷◌, ◌++◌, length, Ok, Err, sym, ap, ◌∙◌, arith}
use Rattle.std.proofs.lemmas.List.{length_push}
use Rattle.ps_names.specs.declared.error_name.ErrorName.{ErrorName}
use Rattle.ps_objects.specs.declared.cell.Cell.{Cell}
use Rattle.ps_objects.specs.declared.object.Object.{Object}
use Rattle.ps_objects.specs.declared.objects.Interval.{Interval}
use Rattle.ps_objects.specs.declared.place.Loc.TheVariants as loc
use Rattle.ps_objects.specs.declared.place.Value.TheVariants as value
use Rattle.ps_memory.specs.Memory.{value_at}
use Rattle.ps_memory.specs.Tree.{Application}
use Rattle.ps_meaning.specs.Answer.{Log, looked_in}
use Rattle.ps_operator.specs.Budgets.{storable}
use Rattle.ps_operator.specs.Looks.{object_then}
use Rattle.ps_operator.specs.Tree.{read, reads}
use Rattle.array_ops.specs.Intervals.{storable_from}
use Rattle.array_ops.specs.Spreading.{pushed_from}

one_left : (i n : ℕ) → i < n → n - i ≡ suc (n - (i + 1))
one_left i n l = omega arith

-- ---- an item that may lie in a cell, and one that may not

module _ (c : Cell) (a : Interval) (i : ℕ) (seen : List Object) (log : Log) (l : i < a.len) where
  abbrev after : Log
  after = looked_in log (loc.Item a.cell (a.start + i))

  abbrev rest : Object → Application (List Object)
  rest x = storable_from c a (i + 1) (a.len - (i + 1)) (seen ++ x ∷ [])

  looked : (x : Object) → value_at log.view (loc.Item a.cell (a.start + i)) ≡ value.Object x → reads (storable_from c a i (a.len - i) seen) log ≡ reads (read (storable c x.kind) (λ _. rest x)) after
  looked x v =
      ap (λ n. reads (storable_from c a i n seen) log) (one_left i a.len l)
      ∙ ap (λ w. reads (object_then (λ x. read (storable c x.kind) (λ _. rest x)) w) after) v

  pub item_passes : (x : Object) (new : Log) → value_at log.view (loc.Item a.cell (a.start + i)) ≡ value.Object x → new ≡ looked_in log (loc.Item a.cell (a.start + i)) → storable c x.kind ≡ Ok tt
      → reads (storable_from c a i (a.len - i) seen) log ≡ reads (storable_from c a (i + 1) (a.len - (i + 1)) (seen ++ x ∷ [])) new
  item_passes x new v n h =
      looked x v
      ∙ ap (λ r. reads (read r (λ _. rest x)) after) h
      ∙ ap (λ g. reads (rest x) g) (sym n)

  pub item_refused : (x : Object) (new : Log) (e : ErrorName) → value_at log.view (loc.Item a.cell (a.start + i)) ≡ value.Object x → new ≡ looked_in log (loc.Item a.cell (a.start + i)) → storable c x.kind ≡ Err e
      → reads (storable_from c a i (a.len - i) seen) log ≡ record { outcome = Err e; log = new }
  item_refused x new e v n h =
      looked x v
      ∙ ap (λ r. reads (read r (λ _. rest x)) after) h
      ∙ ap (λ (g : Log). record { outcome = Err e; log = g }) (sym n)

-- ---- an item that is pushed

pub push_step : (a : Interval) (i : ℕ) (xs : List Object) (log : Log) (x : Object) → i < a.len → value_at log.view (loc.Item a.cell (a.start + i)) ≡ value.Object x
    → reads (pushed_from a i (a.len - i) xs) log ≡ reads (pushed_from a (i + 1) (a.len - (i + 1)) (x ∷ xs)) (looked_in log (loc.Item a.cell (a.start + i)))
push_step a i xs log x l v =
    ap (λ n. reads (pushed_from a i n xs) log) (one_left i a.len l)
    ∙ ap (λ w. reads (object_then (λ x. pushed_from a (i + 1) (a.len - (i + 1)) (x ∷ xs)) w) (looked_in log (loc.Item a.cell (a.start + i)))) v

-- an item more
pub one_more : (n : ℕ) (xs : List Object) (x : Object) (ys : List Object) → length xs ≡ n → ys ≡ xs ++ x ∷ [] → length ys ≡ n + 1
one_more n xs x ys e g = let p : length (xs ++ x ∷ []) ≡ length xs + 1 = length_push xs x in ap length g ∙ p ∙ ap (λ m. m + 1) e
