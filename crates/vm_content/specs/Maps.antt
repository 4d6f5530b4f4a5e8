-- Ordered maps, seen as finite maps.
use Rattle.std.specs.Prelude.{◌≡◌, None}
use Rattle.std.specs.BTreeMap.{BTreeMap}
use Rattle.std.specs.FinMap.{FinMap, from_entries, get}
use Rattle.ps_objects.specs.declared.cell.Cell.{Cell}
use Rattle.ps_objects.specs.declared.key.Key.{Key}
use Rattle.ps_objects.specs.declared.object.Object.{Object}
use Rattle.ps_objects.specs.declared.place.Value.{Value}
use Rattle.ps_memory.specs.Order.{cell_cmp, key_cmp}
use Rattle.ps_memory.specs.Memory.{put_entry}

-- a map by cells
abbrev pub cells_of : {X : Type 0} → BTreeMap Cell X → FinMap cell_cmp X
cells_of m = from_entries m.entries

-- the entries of a dictionary
abbrev pub entries_of : BTreeMap Key Object → FinMap key_cmp Object
entries_of m = from_entries m.entries

-- the same with a value put under a key
abbrev pub entry_put : Key → Value → BTreeMap Key Object → FinMap key_cmp Object
entry_put k v m = put_entry k v (entries_of m)

-- no cell stands that didn't stand before
abbrev pub AddsNone : {X : Type 0} → FinMap cell_cmp X → FinMap cell_cmp X → Type 0
AddsNone old new = (c : Cell) → get old c ≡ None → get new c ≡ None
