use Rattle.std.proofs.Common.{◌≡◌, length}
use Rattle.ps_memory.specs.Memory.{copy_named}
use Rattle.vm_cells.proofs.asked.is_open_in.Given as goal

-- what is left to be closed has the same copy
abbrev pub invariant-loop-left : goal.invariant-loop-left
invariant-loop-left l = copy_named l.name l.left.kept ≡ copy_named l.name l.locals.kept

abbrev pub decreases-loop-left : goal.decreases-loop-left
decreases-loop-left l = length l.left.kept
