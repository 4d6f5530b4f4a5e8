-- The cells of composite objects.
use Rattle.std.specs.Prelude.{ℕ, Option, Some, None}
use Rattle.ps_objects.specs.declared.objects.Interval.{Interval}
use Rattle.ps_objects.specs.declared.cell.Cell.{Cell}
use Rattle.ps_objects.specs.declared.object.Kind.{Kind}
use Rattle.ps_objects.specs.declared.object.Kind.TheVariants as kind

-- the whole of a string or of an array of this length
abbrev pub whole_of : Cell → ℕ → Interval
whole_of cell len = record { cell = cell; start = 0; len = len }

-- the cell that an object names; files, filters, saves, operators and font ids name none
abbrev pub cell_named : Kind → Option Cell
cell_named (kind.Str interval) = Some interval.cell
cell_named (kind.Array interval _) = Some interval.cell
cell_named (kind.Dict cell) = Some cell
cell_named _ = None
