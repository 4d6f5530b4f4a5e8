-- Which places are there, and which values they take.
use Rattle.std.specs.Prelude.{ℕ, Bool, true, false, ◌&&◌, List, Option, Some, None, length, nat_lt}
use Rattle.std.specs.FinMap.{get}
use Rattle.ps_objects.specs.declared.place.Value.{Value}
use Rattle.ps_objects.specs.declared.place.Value.TheVariants as value
use Rattle.ps_memory.specs.State.{Content, Memory, dictionary, items}
use Rattle.ps_memory.specs.Places.{Slot, Spot, part, entry, access, item, held, byte, rand, paper, is}

-- a slot of a cell that may stand takes values: an entry wherever the cell is a dictionary, an item within the length
abbrev pub is_slot : Option Content → Slot → Bool
is_slot (Some (dictionary n a es)) (entry k) = true
is_slot (Some (dictionary n a es)) access = true
is_slot (Some (items xs)) (item i) = nat_lt i (length xs)
is_slot _ _ = false

-- a place within the length of a string that may stand
abbrev pub is_byte : Option (List ℕ) → ℕ → Bool
is_byte None i = false
is_byte (Some bs) i = nat_lt i (length bs)

-- a spot is there; an entry is there wherever its dictionary stands
abbrev pub is_place : Memory → Spot → Bool
is_place M (held c t) = is_slot (get (part M c) c) t
is_place M (byte c i) = is_byte (get M.strings c) i
is_place M rand = true
is_place M paper = true

-- A value of the place's kind: an object, or none for an entry; an access; a byte below 256; a state of the random numbers from 1 to
-- 2^31 - 2; paper.
abbrev pub is_kind : Spot → Value → Bool
is_kind (held c (entry k)) value.Absent = true
is_kind (held c (entry k)) (value.Object x) = true
is_kind (held c access) (value.Access a) = true
is_kind (held c (item i)) (value.Object x) = true
is_kind (byte c i) (value.Byte n) = nat_lt n 256
is_kind rand (value.Rand n) = nat_lt 0 n && nat_lt n 2147483647
is_kind paper (value.Paper p) = true
is_kind _ _ = false
