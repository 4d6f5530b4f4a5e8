use Rattle.std.proofs.Common.{length}
use Rattle.std.specs.FinMap.{from_entries}
use Rattle.vm_journal.proofs.Reverting.{Reverting}
use Rattle.vm_journal.proofs.locals.revert.Given as goal
use Rattle.vm_content.specs.Maps.{cells_of}

abbrev pub decreases-loop-at : goal.decreases-loop-at
decreases-loop-at l = length l.notes.entries

abbrev pub invariant-loop-at : goal.invariant-loop-at
invariant-loop-at l = Reverting (cells_of l.fn.cells) l.fn.notes.entries (from_entries l.cells.entries) l.notes.entries
