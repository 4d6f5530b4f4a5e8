-- Places that are there.
use Rattle.std.specs.Prelude.{◌≡◌, ℕ, ◌<◌, Some, ⊤}
use Rattle.ps_objects.specs.declared.cell.Cell.{Cell}
use Rattle.ps_objects.specs.declared.place.Loc.{Loc}
use Rattle.ps_objects.specs.declared.place.Loc.TheVariants as loc
use Rattle.ps_objects.specs.declared.place.Shape.TheVariants as shape
use Rattle.ps_memory.specs.Memory.{is}
use Rattle.ps_meaning.specs.Objects.{Shapes}

-- a dictionary stands
abbrev pub IsDict : Shapes → Cell → Type 0
IsDict K c = (n : ℕ) × (K c ≡ Some (shape.Dict n))

-- a place that is there
abbrev pub IsLoc : Shapes → Loc → Type 0
IsLoc K (loc.Entry d k) = IsDict K d
IsLoc K (loc.Keys d) = IsDict K d
IsLoc K (loc.Access d) = IsDict K d
IsLoc K (loc.Item a i) = (n : ℕ) × (K a ≡ Some (shape.Array n)) × (i < n)
IsLoc K (loc.Byte s i) = (n : ℕ) × (K s ≡ Some (shape.Str n)) × (i < n)
IsLoc K loc.Rand = ⊤
IsLoc K loc.Paper = ⊤
