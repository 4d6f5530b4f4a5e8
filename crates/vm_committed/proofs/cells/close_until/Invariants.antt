use Rattle.std.proofs.Common.{length, ◌≡◌, None}
use Rattle.std.specs.FinMap.{get}
use Rattle.ps_objects.specs.declared.cell.Cell.{Cell}
use Rattle.ps_memory.specs.Memory.{copy_named, older_than}
use Rattle.vm_journal.specs.Part.{HaveCells, kept_from}
use Rattle.vm_committed.proofs.cells.close_until.Given as goal
use Rattle.vm_content.specs.Maps.{cells_of}

-- what is left to be closed gives the same
abbrev pub invariant-loop-closed : goal.invariant-loop-closed
invariant-loop-closed l = (copy_named l.name l.locals.kept ≡ copy_named l.fn.name l.fn.locals.kept)
    × (older_than l.name l.locals.kept ≡ older_than l.fn.name l.fn.locals.kept)
    × (kept_from l.name (cells_of l.strings) ≡ kept_from l.fn.name (cells_of l.fn.strings))
    × HaveCells (cells_of l.strings) l.locals.cells
    × ((c : Cell) → get (cells_of l.fn.strings) c ≡ None → get (cells_of l.strings) c ≡ None)

abbrev pub decreases-loop-closed : goal.decreases-loop-closed
decreases-loop-closed l = length l.locals.kept
