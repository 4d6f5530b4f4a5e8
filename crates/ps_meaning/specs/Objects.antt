-- Objects and keys whose cells stand, with a fitting shape and range.
use Rattle.std.specs.Prelude.{◌≡◌, ℕ, ◌+◌, Bool, true, false, ◌&&◌, Option, Some, None, nat_le, nat_lt, ⊤}
use Rattle.ps_objects.specs.Key.{cell_of_key}
use Rattle.ps_objects.specs.Object.{cell_named}
use Rattle.ps_objects.specs.declared.cell.Cell.{Cell}
use Rattle.ps_objects.specs.declared.key.Key.{Key}
use Rattle.ps_objects.specs.declared.key.Key.TheVariants as key
use Rattle.ps_objects.specs.declared.object.Object.{Object}
use Rattle.ps_objects.specs.declared.object.Kind.{Kind}
use Rattle.ps_objects.specs.declared.object.Kind.TheVariants as kind
use Rattle.ps_objects.specs.declared.place.Value.TheVariants as value
use Rattle.ps_objects.specs.declared.place.Shape.{Shape}
use Rattle.ps_objects.specs.declared.place.Shape.TheVariants as shape
use Rattle.ps_memory.specs.Memory.{Slot, entry, item, Spot, held, byte, rand, paper, Found, is}

-- the shape of each cell that stands
abbrev pub Shapes : Type 0
Shapes = Cell → Option Shape

-- an interval lies within so many places, and its end has 32 bits, as lengths have
abbrev pub lies_within : (start len size : ℕ) → Bool
lies_within start len size = nat_le (start + len) size && nat_lt (start + len) 4294967296

-- whether an object may name a cell of this shape
abbrev pub takes : Kind → Shape → Bool
takes (kind.Str part) (shape.Str n) = lies_within part.start part.len n
takes (kind.Array part packed) (shape.Array n) = lies_within part.start part.len n
takes (kind.Dict c) (shape.Dict n) = true
takes _ _ = false

-- whether a key may name a cell of this shape
abbrev pub key_takes : Key → Shape → Bool
key_takes (key.Array part packed) (shape.Array n) = lies_within part.start part.len n
key_takes (key.Dict c) (shape.Dict n) = true
key_takes _ _ = false

-- a cell, where one is named, stands with a shape that passes the test
abbrev pub FitsCell : Shapes → Option Cell → (Shape → Bool) → Type 0
FitsCell K None f = ⊤
FitsCell K (Some c) f = (s : Shape) × (K c ≡ Some s) × (f s ≡ true)

-- the cell that an object names, if it names one, stands with a fitting shape and range
abbrev pub FitsObject : Shapes → Object → Type 0
FitsObject K x = FitsCell K (cell_named x.kind) (takes x.kind)

-- the same of a key
abbrev pub FitsKey : Shapes → Key → Type 0
FitsKey K k = FitsCell K (cell_of_key k) (key_takes k)

-- what stands at a slot fits, and the key of an entry with it
abbrev pub FitsFound : Shapes → Slot → Found → Type 0
FitsFound K (entry k) (is (value.Object x)) = FitsKey K k × FitsObject K x
FitsFound K (item i) (is (value.Object x)) = FitsObject K x
FitsFound K _ _ = ⊤

-- the same of what stands at any spot
abbrev pub FitsSpot : Shapes → Spot → Found → Type 0
FitsSpot K (held c t) x = FitsFound K t x
FitsSpot K (byte c i) x = ⊤
FitsSpot K rand x = ⊤
FitsSpot K paper x = ⊤
