use Rattle.std.proofs.Common.{length}
use Rattle.std.specs.FinMap.{from_entries}
use Rattle.vm_journal.proofs.Dropping.{Dropped}
use Rattle.vm_journal.proofs.locals.drop_newer.Given as goal
use Rattle.vm_content.specs.Maps.{cells_of}

abbrev pub decreases-loop-last : goal.decreases-loop-last
decreases-loop-last l = length l.cells.entries

abbrev pub invariant-loop-last : goal.invariant-loop-last
invariant-loop-last l = Dropped l.save (cells_of l.fn.cells) (cells_of l.fn.strings) (from_entries l.cells.entries) (from_entries l.strings.entries)
