-- What a cell's content is seen as.
use Rattle.std.specs.Prelude.{◌<◌, ◌^◌, length, ⊤}
use Rattle.std.specs.FinMap.{from_entries}
use Rattle.ps_memory.specs.Order.{key_cmp}
use Rattle.ps_memory.specs.Memory.{Content, dictionary, items, characters}
use Rattle.vm_content.specs.declared.content.Inner.{Inner}
use Rattle.vm_content.specs.declared.content.Inner.TheVariants.{Dictionary, Items, Characters}
use Rattle.vm_content.specs.Maps.{entries_of}

-- the fields of a content, seen as the definition of memory has them
abbrev pub seen : Inner → Content
seen (Dictionary alloc capacity rights entries) = dictionary capacity rights (entries_of entries)
seen (Items xs) = items xs.items
seen (Characters n) = characters n

-- a length that a shape can tell
abbrev pub IsSmall : Inner → Type 0
IsSmall (Dictionary alloc capacity rights entries) = ⊤
IsSmall (Items xs) = length xs.items < 2 ^ 32
IsSmall (Characters n) = ⊤
