-- The values in a cell, by places.
use Rattle.std.specs.Prelude.{Option, Some, None}
use Rattle.ps_objects.specs.declared.cell.Cell.{Cell}
use Rattle.ps_objects.specs.declared.object.Object.{Object}
use Rattle.ps_objects.specs.declared.place.Loc.{Loc}
use Rattle.ps_objects.specs.declared.place.Loc.TheVariants as loc
use Rattle.ps_objects.specs.declared.place.Value.{Value}
use Rattle.ps_objects.specs.declared.place.Value.TheVariants as value
use Rattle.ps_memory.specs.Memory.{Content, CellMap, Slot, Spot, spot_of, held, put_content, put_cell, entry, access, item, whole, in_content, object_found, value_found, keys_of}

-- the part of a cell that a place names
abbrev pub slot_in : Loc → Slot
slot_in (loc.Entry d k) = entry k
slot_in (loc.Keys d) = whole
slot_in (loc.Access d) = access
slot_in (loc.Item a i) = item i
slot_in (loc.Byte s i) = whole
slot_in loc.Rand = whole
slot_in loc.Paper = whole

-- what a cell has at a place of its own, bytes aside
abbrev pub value_in : Content → Loc → Value
value_in x (loc.Entry d k) = value_found (in_content (Some x) (entry k))
value_in x (loc.Keys d) = keys_of (Some x)
value_in x (loc.Access d) = value_found (in_content (Some x) access)
value_in x (loc.Item a i) = value_found (in_content (Some x) (item i))
value_in x _ = value.Absent

-- the cell of whose content a place is a part
abbrev pub holder : Spot → Option Cell
holder (held c t) = Some c
holder _ = None

-- the cells with a value at a place of theirs
abbrev pub put_held : Spot → Value → CellMap → CellMap
put_held (held c t) v m = put_cell c (put_content t v) m
put_held _ v m = m

-- the same at a place's name
abbrev pub put_at : Loc → Value → CellMap → CellMap
put_at l v m = put_held (spot_of l) v m

-- the value of an object that was found, if there is one
abbrev pub found_value : Option Object → Value
found_value x = value_found (object_found x)
