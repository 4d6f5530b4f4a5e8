-- What global cells may name.
use Rattle.std.specs.Prelude.{◌≡◌, Bool, true, ◌&&◌, ◌||◌, Option, Some, None, nat_eq, ⊤}
use Rattle.ps_objects.specs.Key.{cell_of_key}
use Rattle.ps_objects.specs.Object.{cell_named}
use Rattle.ps_objects.specs.declared.cell.Cell.{Cell}
use Rattle.ps_objects.specs.declared.place.Value.TheVariants as value
use Rattle.ps_memory.specs.Memory.{is_global, Slot, entry, item, Spot, held, byte, rand, paper, Found, is}

-- the system dictionary
abbrev pub is_system_dict : Cell → Bool
is_system_dict c = nat_eq c.section 0 && nat_eq c.count 0

-- a key of a global cell names no local cell
abbrev pub key_is_shared : Option Cell → Bool
key_is_shared None = true
key_is_shared (Some c) = is_global c

-- neither does a value; but values of the system dictionary may name local cells that the start made
abbrev pub value_is_shared : Cell → Option Cell → Bool
value_is_shared holder None = true
value_is_shared holder (Some c) = is_global c || (is_system_dict holder && nat_eq c.section 0)

-- what stands at a slot of a global cell may stand there
abbrev pub SharedFound : Cell → Slot → Found → Type 0
SharedFound holder (entry k) (is (value.Object x)) = (key_is_shared (cell_of_key k) ≡ true) × (value_is_shared holder (cell_named x.kind) ≡ true)
SharedFound holder (item i) (is (value.Object x)) = value_is_shared holder (cell_named x.kind) ≡ true
SharedFound holder _ _ = ⊤

-- the same of any spot: local cells may name all
abbrev pub SharedSpot : Spot → Found → Type 0
SharedSpot (held c t) x = is_global c ≡ true → SharedFound c t x
SharedSpot (byte c i) x = ⊤
SharedSpot rand x = ⊤
SharedSpot paper x = ⊤
