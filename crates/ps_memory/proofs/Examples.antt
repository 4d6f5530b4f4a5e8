-- Small trails, told by computing, to see that the definitions mean what they should.
use Rattle.std.proofs.Common.{◌≡◌, [], ◌∷◌, Some, None, refl}
use Rattle.ps_objects.specs.declared.cell.Cell.{Cell}
use Rattle.ps_objects.specs.declared.cell.SaveName.{SaveName}
use Rattle.ps_objects.specs.declared.cell.Space.TheVariants.{Local}
use Rattle.ps_objects.specs.declared.key.Key.TheVariants as key
use Rattle.ps_objects.specs.declared.place.Loc.{Loc}
use Rattle.ps_objects.specs.declared.place.Loc.TheVariants as loc
use Rattle.ps_objects.specs.declared.place.Value.{Value}
use Rattle.ps_objects.specs.declared.place.Value.TheVariants as value
use Rattle.ps_objects.specs.declared.place.Shape.TheVariants as shape
use Rattle.ps_memory.specs.Memory.{store, fresh, save, restore}
use Rattle.ps_memory.specs.Tree.{looked_at, did}
use Rattle.ps_memory.specs.Ownership.{looked, outer}
use Rattle.ps_memory.specs.Writes.{writes}

abbrev user : Cell
user = record { section = 0; count = 2; space = Local }

abbrev text : Cell
text = record { section = 0; count = 8; space = Local }

abbrev made : Cell
made = record { section = 3; count = 0; space = Local }

abbrev mark : SaveName
mark = record { section = 3; count = 1 }

abbrev older : SaveName
older = record { section = 1; count = 7 }

abbrev name : Loc
name = loc.Entry user (key.Name (110 ∷ []))

abbrev one : Value
one = value.Byte 1

abbrev two : Value
two = value.Byte 2

-- a place is told once, and not once it was stored at
looked_once : looked (looked_at name ∷ looked_at name ∷ did (store name one) ∷ looked_at name ∷ []) ≡ name ∷ []
looked_once = refl

stored_first : looked (did (store name one) ∷ looked_at name ∷ []) ≡ []
stored_first = refl

-- no store owns the keys of a dictionary; those of a new one are owned
keys_told : looked (did (store name one) ∷ looked_at (loc.Keys user) ∷ []) ≡ loc.Keys user ∷ []
keys_told = refl

keys_owned : looked (did (fresh made (shape.Dict 0)) ∷ looked_at (loc.Keys made) ∷ []) ≡ []
keys_owned = refl

-- a restore takes back the ownership of an entry, and leaves that of a string's byte
entry_given_back : looked (did (save mark) ∷ did (store name one) ∷ did (restore mark) ∷ looked_at name ∷ []) ≡ name ∷ []
entry_given_back = refl

byte_kept : looked (did (save mark) ∷ did (store (loc.Byte text 0) one) ∷ did (restore mark) ∷ looked_at (loc.Byte text 0) ∷ []) ≡ []
byte_kept = refl

-- the save of an earlier section is an outer one
own_save : outer (did (save mark) ∷ did (restore mark) ∷ []) ≡ None
own_save = refl

earlier_save : outer (did (save mark) ∷ did (restore older) ∷ []) ≡ Some older
earlier_save = refl

-- a restore leaves what outlives it, and a store takes the place of an earlier one
taken_back : writes (did (save mark) ∷ did (store name one) ∷ did (store loc.Rand two) ∷ did (restore mark) ∷ []) ≡ store loc.Rand two ∷ []
taken_back = refl

replaced_once : writes (did (store name one) ∷ did (store loc.Rand one) ∷ did (store name two) ∷ []) ≡ store loc.Rand one ∷ store name two ∷ []
replaced_once = refl

painted_between : writes (did (store loc.Paper one) ∷ did (save mark) ∷ did (store loc.Paper two) ∷ did (restore mark) ∷ []) ≡ store loc.Paper two ∷ []
painted_between = refl
