-- Steps of the search for the dictionary that has a key, and that it stands.
use Rattle.std.proofs.Common.{◌≡◌, ℕ, ◌+◌, true, false, List, [], ◌∷◌, Option, Some, None, Ok, slice_get, drop, refl, sym, ap, ◌∙◌, true≢false}
use Rattle.ps_objects.specs.declared.cell.Cell.{Cell}
use Rattle.ps_objects.specs.declared.key.Key.{Key}
use Rattle.ps_objects.specs.declared.place.Loc.TheVariants as loc
use Rattle.ps_objects.specs.declared.place.Value.{Value}
use Rattle.ps_objects.specs.declared.place.Value.TheVariants as value
use Rattle.ps_memory.specs.Memory.{Memory, value_at}
use Rattle.ps_memory.specs.Tree.{Application}
use Rattle.ps_meaning.specs.Answer.{Log, looked_in}
use Rattle.vm_mem.specs.declared.glance.Glance.{Glance}
use Rattle.vm_mem.specs.Glances.{glance_at, is_absent}
use Rattle.vm_mem.proofs.Glances.{object_there}
use Rattle.ps_operator.specs.Looks.{entry_then}
use Rattle.ps_operator.specs.Registers.{current}
use Rattle.ps_operator.specs.Standing.{is_dict, is_entry}
use Rattle.ps_operator.specs.Tree.{reads}
use Rattle.ps_operator.proofs.Looked.{entry_found}
use Rattle.ps_operator.proofs.LookSteps.{drop_at_get}
use Rattle.dict_ops.specs.Stack.{holder, holder_or, holder_stands, or_current}

-- what the search leaves of the value that it sees in a dictionary
abbrev held_then : List Cell → Key → Cell → Value → Application (Option Cell)
held_then ds key d v = entry_then (holder_or d (holder ds key)) v

module _ (ds : List Cell) (i : ℕ) (d : Cell) (key : Key) (log : Log) (g : Glance) (e : slice_get ds i ≡ Some d) (h : g ≡ glance_at (value_at log.view (loc.Entry d key))) where
  abbrev after : Log
  after = looked_in log (loc.Entry d key)

  pub held_hit : is_absent g ≡ false → reads (holder (drop i ds) key) log ≡ record { outcome = Ok (Some d); log = looked_in log (loc.Entry d key) }
  held_hit there =
      ap (λ xs. reads (holder xs key) log) (drop_at_get ds i d e)
      ∙ go (value_at log.view (loc.Entry d key)) h (entry_found log.view d key (value_at log.view (loc.Entry d key)) refl)
    where
      go : (v : Value) → g ≡ glance_at v → is_entry v ≡ true → reads (held_then (drop (i + 1) ds) key d v) after ≡ record { outcome = Ok (Some d); log = after }
      go value.Absent h k = absurd (true≢false (sym (ap is_absent h) ∙ there))
      go (value.Object x) h k = refl
      go (value.Byte n) h k = absurd (true≢false (sym k))
      go (value.Access a) h k = absurd (true≢false (sym k))
      go (value.Keys ks) h k = absurd (true≢false (sym k))
      go (value.Rand n) h k = absurd (true≢false (sym k))
      go (value.Paper p) h k = absurd (true≢false (sym k))

  pub held_miss : is_absent g ≡ true → reads (holder (drop i ds) key) log ≡ reads (holder (drop (i + 1) ds) key) (looked_in log (loc.Entry d key))
  held_miss none =
      ap (λ xs. reads (holder xs key) log) (drop_at_get ds i d e)
      ∙ go (value_at log.view (loc.Entry d key)) h (entry_found log.view d key (value_at log.view (loc.Entry d key)) refl)
    where
      go : (v : Value) → g ≡ glance_at v → is_entry v ≡ true → reads (held_then (drop (i + 1) ds) key d v) after ≡ reads (holder (drop (i + 1) ds) key) after
      go value.Absent h k = refl
      go (value.Object x) h k = absurd (true≢false (sym none ∙ ap is_absent h ∙ object_there x))
      go (value.Byte n) h k = absurd (true≢false (sym k))
      go (value.Access a) h k = absurd (true≢false (sym k))
      go (value.Keys ks) h k = absurd (true≢false (sym k))
      go (value.Rand n) h k = absurd (true≢false (sym k))
      go (value.Paper p) h k = absurd (true≢false (sym k))

-- the dictionary that a program stores in stands
pub held_stands : (M : Memory) (ds : List Cell) (there : Option Cell) → is_dict M (current ds) ≡ true → holder_stands M there ≡ true → is_dict M (or_current ds there) ≡ true
held_stands M ds None h g = h
held_stands M ds (Some d) h g = g
