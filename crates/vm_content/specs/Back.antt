-- How a write is taken back without memory.
use Rattle.std.specs.Prelude.{◌≡◌, Some, None}
use Rattle.std.specs.FinMap.{FinMap, get, insert, remove}
use Rattle.ps_objects.specs.declared.key.Key.{Key}
use Rattle.ps_objects.specs.declared.object.Object.{Object}
use Rattle.ps_objects.specs.declared.place.Loc.{Loc}
use Rattle.ps_objects.specs.declared.place.Value.{Value}
use Rattle.ps_objects.specs.declared.place.Value.TheVariants as value
use Rattle.ps_memory.specs.Order.{key_cmp}
use Rattle.ps_memory.specs.Memory.{Content, dictionary, Slot, entry, put_content}
use Rattle.vm_content.specs.Content.{slot_in}
use Rattle.vm_content.specs.Maps.{entries_of}
use Rattle.vm_content.specs.declared.before.Before.{Before}
use Rattle.vm_content.specs.declared.before.Before.TheVariants.{Same, Place, Entries}

-- an object in place of another, where there is one
abbrev pub over_entry : Key → Object → FinMap key_cmp Object → FinMap key_cmp Object
over_entry k x es = elim (get es k) as (λ _. FinMap key_cmp Object) [ None ↦ es | Some y ↦ insert es k x ]

-- the entries with what a key had put back
abbrev pub entry_undone : Key → Value → FinMap key_cmp Object → FinMap key_cmp Object
entry_undone k value.Absent es = remove es k
entry_undone k (value.Object x) es = over_entry k x es
entry_undone k _ es = es

-- what a cell holds with what a place had put back
abbrev pub place_undone : Slot → Value → Content → Content
place_undone (entry k) v (dictionary n a es) = dictionary n a (entry_undone k v es)
place_undone (entry k) v x = x
place_undone t v x = put_content t v x

-- a dictionary with these entries; another content stays
abbrev pub with_entries : FinMap key_cmp Object → Content → Content
with_entries es (dictionary n a old) = dictionary n a es
with_entries es x = x

-- a content as it was before a write
abbrev pub content_undone : Before → Content → Content
content_undone Same x = x
content_undone (Place l v) x = place_undone (slot_in l) v x
content_undone (Entries es) x = with_entries (entries_of es) x

-- a write of a value at a place of a content is taken back
abbrev pub TakesBack : Before → Loc → Value → Content → Type 0
TakesBack b l v x = content_undone b (put_content (slot_in l) v x) ≡ x
