-- Looks at items and entries, where something is sought.
use Rattle.std.proofs.Common.{◌≡◌, ℕ, ◌+◌, ◌<◌, true, Option, Some, None, arith}
use Rattle.ps_objects.specs.declared.cell.Cell.{Cell}
use Rattle.ps_objects.specs.declared.key.Key.{Key}
use Rattle.ps_objects.specs.declared.object.Object.{Object}
use Rattle.ps_objects.specs.declared.objects.Interval.{Interval}
use Rattle.ps_objects.specs.declared.place.Loc.TheVariants as loc
use Rattle.ps_objects.specs.declared.place.Value.{Value}
use Rattle.ps_objects.specs.declared.place.Value.TheVariants as value
use Rattle.ps_memory.specs.Tree.{Application}
use Rattle.ps_meaning.specs.Fits.{lies_within, FitsObject}
use Rattle.ps_meaning.specs.Sound.{World, IsAnswer}
use Rattle.ps_operator.specs.Looks.{entry_then, object_then, look_entry, look_item}
use Rattle.ps_operator.specs.Lawful.{HasDict, HasItems, FitsOption, Looks}
use Rattle.ps_operator.proofs.Seeking.{Seeks}

pub entry_seeks : {A : Type 0} {W : World} {P : A → Type 0} {d : Cell} {j : Key} {k : Option Object → Application A} → HasDict W.shapes d
    → ((x : Option Object) → FitsOption W.shapes x → Seeks W P (k x)) → Seeks W P (look_entry d j k)
entry_seeks {W = W} {P = P} {d = d} {j = j} {k = k} h g = record { looks = (h.stands, go) }
  where
    go : (v : Value) → IsAnswer W (loc.Entry d j) v → Looks (entry_then k v) W P
    go (value.Object x) e = (g (Some x) e.1).looks
    go value.Absent e = (g None tt).looks
    go (value.Byte n) e = absurd e
    go (value.Access a) e = absurd e
    go (value.Keys ks) e = absurd e
    go (value.Rand n) e = absurd e
    go (value.Paper p) e = absurd e

within : (start len n i : ℕ) → lies_within start len n ≡ true → i < len → start + i < n
within start len n i h l = grind arith

pub item_seeks : {A : Type 0} {W : World} {P : A → Type 0} {a : Interval} {k : Object → Application A} (i : ℕ) → HasItems W.shapes a → i < a.len
    → ((x : Object) → FitsObject W.shapes x → Seeks W P (k x)) → Seeks W P (look_item a i k)
item_seeks {W = W} {P = P} {a = a} {k = k} i h l g = record { looks = ((h.size, h.stands, within a.start a.len h.size i h.within l), go) }
  where
    go : (v : Value) → IsAnswer W (loc.Item a.cell (a.start + i)) v → Looks (object_then k v) W P
    go (value.Object x) e = (g x e).looks
    go value.Absent e = absurd e
    go (value.Byte n) e = absurd e
    go (value.Access a) e = absurd e
    go (value.Keys ks) e = absurd e
    go (value.Rand n) e = absurd e
    go (value.Paper p) e = absurd e
