-- The order of cells by their names, and the next cell that stands.
use Rattle.std.specs.Prelude.{◌≡◌, ◌≢◌, Bool, true, false, Option, Some, None}
use Rattle.std.specs.Ordering.{nat_cmp, is_lt, ordering_then}
use Rattle.ps_objects.specs.declared.cell.Cell.{Cell}
use Rattle.ps_objects.specs.declared.place.Shape.{Shape}
use Rattle.ps_memory.specs.Memory.{Memory, shape_at}

-- by section, then by count, whatever the spaces, since these two name a cell
abbrev pub comes_before : Cell → Cell → Bool
comes_before c d = is_lt (ordering_then (nat_cmp c.section d.section) (nat_cmp c.count d.count))

-- a cell comes after the given one, if one is given
abbrev pub is_after : Option Cell → Cell → Bool
is_after None d = true
is_after (Some c) d = comes_before c d

-- the cell stands with its shape after the given one, and no other that does comes before it; or none does
abbrev pub IsNext : Memory → Option Cell → Option (Cell × Shape) → Type 0
IsNext M c (Some d) = (shape_at M d.0 ≡ Some d.1) × (is_after c d.0 ≡ true) × ((e : Cell) → shape_at M e ≢ None → is_after c e ≡ true → comes_before e d.0 ≡ false)
IsNext M c None = (e : Cell) → shape_at M e ≢ None → is_after c e ≡ false
