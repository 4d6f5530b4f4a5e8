-- Steps of the loops that copy dictionaries and that list them.
use Rattle.std.proofs.Common.{◌≡◌, ℕ, ◌+◌, List, [], ◌∷◌, ◌++◌, drop, length, map, Option, Some, None, slice_get, Result, Ok, Err, refl, sym, ap, ◌∙◌, arith}
use Rattle.std.proofs.lemmas.List.{append_assoc, append-nil, drop_all}
use Rattle.ps_names.specs.declared.error_name.ErrorName.{ErrorName}
use Rattle.ps_objects.specs.declared.cell.Cell.{Cell}
use Rattle.ps_objects.specs.declared.key.Key.{Key}
use Rattle.ps_objects.specs.declared.object.Kind.TheVariants as kind
use Rattle.ps_objects.specs.declared.object.Object.{Object}
use Rattle.ps_objects.specs.declared.place.Loc.TheVariants as loc
use Rattle.ps_objects.specs.declared.place.Value.{Value}
use Rattle.ps_kinds.specs.declared.frame.Pair.{Pair}
use Rattle.ps_memory.specs.Memory.{value_at}
use Rattle.ps_memory.specs.Tree.{Application}
use Rattle.ps_meaning.specs.Answer.{Log, looked_in}
use Rattle.ps_operator.specs.Looks.{entry_then, or_absent}
use Rattle.ps_operator.specs.Registers.{literal}
use Rattle.ps_operator.specs.Tree.{Reading, read, reads}
use Rattle.ps_operator.proofs.LookSteps.{drop_at_get}
use Rattle.dict_ops.specs.Copies.{pairs_for, value_storable, with_pair}

-- ---- a pair that is looked at

module _ (target d : Cell) (ks : List Key) (i : ℕ) (k : Key) (seen : List Pair) (log : Log) (here : slice_get ks i ≡ Some k) where
  abbrev after : Log
  after = looked_in log (loc.Entry d k)

  abbrev goes_on : Option Object → Application (List Pair)
  goes_on x = read (value_storable target k x) (λ _. pairs_for target d (drop (i + 1) ks) (with_pair k x seen))

  told : (x : Option Object) → reads (entry_then goes_on (or_absent x)) after ≡ reads (goes_on x) after
  told None = refl
  told (Some x) = refl

  looked : (x : Option Object) → value_at log.view (loc.Entry d k) ≡ or_absent x → reads (pairs_for target d (drop i ks) seen) log ≡ reads (goes_on x) after
  looked x v =
      ap (λ ys. reads (pairs_for target d ys seen) log) (drop_at_get ks i k here)
      ∙ ap (λ w. reads (entry_then goes_on w) after) v
      ∙ told x

  pub copy_step : (x : Option Object) (new : Log) → value_at log.view (loc.Entry d k) ≡ or_absent x → new ≡ looked_in log (loc.Entry d k) → value_storable target k x ≡ Ok tt
      → reads (pairs_for target d (drop i ks) seen) log ≡ reads (pairs_for target d (drop (i + 1) ks) (with_pair k x seen)) new
  copy_step x new v n h =
      looked x v
      ∙ ap (λ r. reads (read r (λ _. pairs_for target d (drop (i + 1) ks) (with_pair k x seen))) after) h
      ∙ ap (λ g. reads (pairs_for target d (drop (i + 1) ks) (with_pair k x seen)) g) (sym n)

  pub copy_refused : (x : Option Object) (new : Log) (e : ErrorName) → value_at log.view (loc.Entry d k) ≡ or_absent x → new ≡ looked_in log (loc.Entry d k) → value_storable target k x ≡ Err e
      → reads (pairs_for target d (drop i ks) seen) log ≡ record { outcome = Err e; log = new }
  copy_refused x new e v n h =
      looked x v
      ∙ ap (λ r. reads (read r (λ _. pairs_for target d (drop (i + 1) ks) (with_pair k x seen))) after) h
      ∙ ap (λ (g : Log). record { outcome = Err e; log = g }) (sym n)

-- ---- a dictionary that is listed

abbrev listed : List Cell → List Object
listed ds = map (λ d. literal (kind.Dict d)) ds

pub list_step : (ds : List Cell) (i : ℕ) (d : Cell) (os : List Object) → slice_get ds i ≡ Some d → os ++ map (λ d. literal (kind.Dict d)) (drop i ds) ≡ (os ++ literal (kind.Dict d) ∷ []) ++ map (λ d. literal (kind.Dict d)) (drop (i + 1) ds)
list_step ds i d os e = ap (λ xs. os ++ listed xs) (drop_at_get ds i d e) ∙ sym (append_assoc os (literal (kind.Dict d) ∷ []) (listed (drop (i + 1) ds)))

pub list_end : (ds : List Cell) (i : ℕ) (os : List Object) → i ≡ length ds → os ++ map (λ d. literal (kind.Dict d)) (drop i ds) ≡ os
list_end ds i os e = ap (λ xs. os ++ listed xs) (drop_all i ds (omega (arith, e))) ∙ append-nil os
