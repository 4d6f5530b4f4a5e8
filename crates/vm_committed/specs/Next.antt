-- The earlier of two cells.
use Rattle.std.specs.Prelude.{cond, Option, Some, None}
use Rattle.ps_objects.specs.declared.cell.Cell.{Cell}
use Rattle.ps_objects.specs.declared.place.Shape.{Shape}
use Rattle.ps_memory.specs.Next.{comes_before}

-- what comes first of a local and a global cell
abbrev pub earlier : Option (Cell × Shape) → Option (Cell × Shape) → Option (Cell × Shape)
earlier None d = d
earlier (Some c) None = Some c
earlier (Some c) (Some d) = cond (comes_before d.0 c.0) (Some d) (Some c)
