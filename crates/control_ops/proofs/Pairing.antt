-- A pair that is looked at.
use Rattle.std.proofs.Common.{◌≡◌, ℕ, ◌+◌, List, drop, Option, Some, None, slice_get, refl, sym, ap, ◌∙◌}
use Rattle.ps_objects.specs.declared.cell.Cell.{Cell}
use Rattle.ps_objects.specs.declared.key.Key.{Key}
use Rattle.ps_objects.specs.declared.object.Object.{Object}
use Rattle.ps_objects.specs.declared.place.Loc.TheVariants as loc
use Rattle.ps_kinds.specs.declared.frame.Pair.{Pair}
use Rattle.ps_memory.specs.Memory.{value_at}
use Rattle.ps_memory.specs.Tree.{Application}
use Rattle.ps_meaning.specs.Answer.{Log, looked_in}
use Rattle.ps_operator.specs.Looks.{entry_then, or_absent}
use Rattle.ps_operator.specs.Tree.{reads}
use Rattle.ps_operator.proofs.LookSteps.{drop_at_get}
use Rattle.control_ops.specs.Loops.{pairs_from, with_pair}

module _ (d : Cell) (ks : List Key) (i : ℕ) (k : Key) (seen : List Pair) (log : Log) (here : slice_get ks i ≡ Some k) where
  abbrev goes_on : Option Object → Application (List Pair)
  goes_on x = pairs_from d (drop (i + 1) ks) (with_pair seen k x)

  told : (x : Option Object) (after : Log) → reads (entry_then goes_on (or_absent x)) after ≡ reads (goes_on x) after
  told None after = refl
  told (Some x) after = refl

  pub pair_step : (x : Option Object) (new : Log) → value_at log.view (loc.Entry d k) ≡ or_absent x → new ≡ looked_in log (loc.Entry d k)
      → reads (pairs_from d (drop i ks) seen) log ≡ reads (pairs_from d (drop (i + 1) ks) (with_pair seen k x)) new
  pair_step x new v n =
      ap (λ ys. reads (pairs_from d ys seen) log) (drop_at_get ks i k here)
      ∙ ap (λ w. reads (entry_then goes_on w) (looked_in log (loc.Entry d k))) v
      ∙ told x (looked_in log (loc.Entry d k))
      ∙ ap (λ g. reads (goes_on x) g) (sym n)
