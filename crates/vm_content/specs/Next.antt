-- The next cell of a map.
use Rattle.std.specs.Prelude.{◌≡◌, ◌≢◌, Bool, true, false, not, cond, List, [], ◌∷◌, Option, Some, None}
use Rattle.std.specs.FinMap.{get}
use Rattle.std.specs.declared.ops.Bound.{Bound}
use Rattle.std.specs.declared.ops.Bound.TheVariants.{Unbounded, Excluded}
use Rattle.ps_objects.specs.declared.cell.Cell.{Cell}
use Rattle.ps_objects.specs.declared.cell.Space.{Space}
use Rattle.ps_objects.specs.declared.cell.Space.TheVariants.{Local, Global}
use Rattle.ps_objects.specs.declared.place.Shape.{Shape}
use Rattle.ps_memory.specs.Memory.{is_global, CellMap, whole, in_content, shape_in}
use Rattle.ps_memory.specs.Next.{comes_before, is_after}

-- the cell is of the space
abbrev pub is_in : Space → Cell → Bool
is_in Local c = not (is_global c)
is_in Global c = is_global c

-- the cells after one are those behind both of its section and count
abbrev pub bound_after : Option Cell → Bound Cell
bound_after None = Unbounded
bound_after (Some c) = Excluded (record { section = c.section; count = c.count; space = Global })

-- the first entry at a key that passes the test
abbrev pub first_where : {K X : Type 0} → (K → Bool) → List (K × X) → Option (K × X)
first_where p [] = None
first_where p (e ∷ es) = cond (p e.0) (Some e) (first_where p es)

-- what stands next, if only the cells of a space are looked at
abbrev pub IsNextIn : Space → CellMap → Option Cell → Option (Cell × Shape) → Type 0
IsNextIn s m c (Some d) = (shape_in (in_content (get m d.0) whole) ≡ Some d.1) × (is_in s d.0 ≡ true) × (is_after c d.0 ≡ true)
    × ((e : Cell) → is_in s e ≡ true → get m e ≢ None → is_after c e ≡ true → comes_before e d.0 ≡ false)
IsNextIn s m c None = (e : Cell) → is_in s e ≡ true → get m e ≢ None → is_after c e ≡ false
