-- Which cells are global, and which are newer than a save.
use Rattle.std.specs.Prelude.{Bool, true, false, ◌&&◌, not}
use Rattle.std.specs.Ordering.{nat_cmp, is_gt, ordering_then}
use Rattle.ps_objects.specs.declared.cell.Cell.{Cell}
use Rattle.ps_objects.specs.declared.cell.SaveName.{SaveName}
use Rattle.ps_objects.specs.declared.cell.Space.{Space}
use Rattle.ps_objects.specs.declared.cell.Space.TheVariants.{Local, Global}

-- whether a space is global memory
abbrev pub in_global : Space → Bool
in_global Local = false
in_global Global = true

-- whether a cell lies in global memory
abbrev pub is_global : Cell → Bool
is_global c = in_global c.space

-- made in a later section, or later in the section of the save, local or global
abbrev pub comes_after : Cell → SaveName → Bool
comes_after c s = is_gt (ordering_then (nat_cmp c.section s.section) (nat_cmp c.count s.count))

-- a local cell that was made after the save
abbrev pub newer : Cell → SaveName → Bool
newer c s = not (is_global c) && comes_after c s
