-- The places of memory, and what stands there.
use Rattle.std.specs.Prelude.{ℕ, cond, List, Option, Some, None, slice_get, length}
use Rattle.std.specs.FinMap.{get, keys as keys_in}
use Rattle.ps_objects.specs.declared.cell.Cell.{Cell}
use Rattle.ps_objects.specs.declared.key.Key.{Key}
use Rattle.ps_objects.specs.declared.object.Object.{Object}
use Rattle.ps_objects.specs.declared.place.Loc.{Loc}
use Rattle.ps_objects.specs.declared.place.Loc.TheVariants as loc
use Rattle.ps_objects.specs.declared.place.Value.{Value}
use Rattle.ps_objects.specs.declared.place.Value.TheVariants as value
use Rattle.ps_objects.specs.declared.place.Shape.{Shape}
use Rattle.ps_objects.specs.declared.place.Shape.TheVariants as shape
use Rattle.ps_objects.specs.Cell.{is_global}
use Rattle.ps_memory.specs.State.{Content, CellMap, Page, Memory, dictionary, items, characters, here, out}

-- a place in a cell: `whole` stands for its shape and, in a dictionary, for the list of its keys
pub data Slot : Type 0 where
  entry : Key → Slot
  access : Slot
  item : ℕ → Slot
  whole : Slot

-- a place of memory: in a cell, a byte of a string, the state of the random numbers, the paper
pub data Spot : Type 0 where
  held : Cell → Slot → Spot
  byte : Cell → ℕ → Spot
  rand : Spot
  paper : Spot

-- the spot of a place as the code names it; the keys of a dictionary stand where its shape does
abbrev pub spot_of : Loc → Spot
spot_of (loc.Entry d k) = held d (entry k)
spot_of (loc.Keys d) = held d whole
spot_of (loc.Access d) = held d access
spot_of (loc.Item a i) = held a (item i)
spot_of (loc.Byte s i) = byte s i
spot_of loc.Rand = rand
spot_of loc.Paper = paper

-- what stands at a spot: a value, or the shape of a cell
pub data Found : Type 0 where
  is : Value → Found
  shaped : Shape → Found

-- the object, if there is one
abbrev pub object_found : Option Object → Found
object_found None = is value.Absent
object_found (Some x) = is (value.Object x)

-- the byte, if there is one
abbrev pub byte_found : Option ℕ → Found
byte_found None = is value.Absent
byte_found (Some n) = is (value.Byte n)

-- the paper, if it is here
abbrev pub page_found : Page → Found
page_found (here p) = is (value.Paper p)
page_found (out w h) = is value.Absent

-- what stands at a slot of a cell that may stand: absent where it is of another kind, or the place is out of range
abbrev pub in_content : Option Content → Slot → Found
in_content None t = is value.Absent
in_content (Some (dictionary n a es)) (entry k) = object_found (get es k)
in_content (Some (dictionary n a es)) access = is (value.Access a)
in_content (Some (dictionary n a es)) (item i) = is value.Absent
in_content (Some (dictionary n a es)) whole = shaped (shape.Dict n)
in_content (Some (items xs)) (entry k) = is value.Absent
in_content (Some (items xs)) access = is value.Absent
in_content (Some (items xs)) (item i) = object_found (slice_get xs i)
in_content (Some (items xs)) whole = shaped (shape.Array (length xs))
in_content (Some (characters n)) (entry k) = is value.Absent
in_content (Some (characters n)) access = is value.Absent
in_content (Some (characters n)) (item i) = is value.Absent
in_content (Some (characters n)) whole = shaped (shape.Str n)

-- what stands at a place of a string that may stand
abbrev pub in_string : Option (List ℕ) → ℕ → Found
in_string None i = is value.Absent
in_string (Some bs) i = byte_found (slice_get bs i)

-- the part of memory to which a cell belongs: the global cells, or the local ones
abbrev pub part : Memory → Cell → CellMap
part M c = cond (is_global c) M.globals M.locals

-- what stands at a spot of memory
abbrev pub at : Memory → Spot → Found
at M (held c t) = in_content (get (part M c) c) t
at M (byte c i) = in_string (get M.strings c) i
at M rand = is (value.Rand M.rand)
at M paper = page_found M.page

-- the value that was found; a shape is none
abbrev pub value_found : Found → Value
value_found (is v) = v
value_found (shaped s) = value.Absent

-- the keys of a dictionary's entries, in their order
abbrev pub keys_of : Option Content → Value
keys_of None = value.Absent
keys_of (Some (dictionary n a es)) = value.Keys (keys_in es)
keys_of (Some (items xs)) = value.Absent
keys_of (Some (characters n)) = value.Absent

-- the value at a spot, where the whole of a dictionary is seen as its keys
abbrev pub seen_at : Memory → Spot → Value
seen_at M (held c (entry k)) = value_found (at M (held c (entry k)))
seen_at M (held c access) = value_found (at M (held c access))
seen_at M (held c (item i)) = value_found (at M (held c (item i)))
seen_at M (held c whole) = keys_of (get (part M c) c)
seen_at M (byte c i) = value_found (at M (byte c i))
seen_at M rand = value_found (at M rand)
seen_at M paper = value_found (at M paper)

-- the value at a place: absent where its cell doesn't stand or is of another kind, or the place is out of range
abbrev pub value_at : Memory → Loc → Value
value_at M l = seen_at M (spot_of l)

-- the shape that was found, if it is one
abbrev pub shape_in : Found → Option Shape
shape_in (is v) = None
shape_in (shaped s) = Some s

-- the shape of a cell, where it stands
abbrev pub shape_at : Memory → Cell → Option Shape
shape_at M c = shape_in (at M (held c whole))

-- the shape, where there is one
abbrev pub standing_shape : Option Shape → Shape
standing_shape None = shape.Dict 0
standing_shape (Some s) = s

-- the shape of a cell that stands
abbrev pub shape_of : Memory → Cell → Shape
shape_of M c = standing_shape (shape_at M c)
