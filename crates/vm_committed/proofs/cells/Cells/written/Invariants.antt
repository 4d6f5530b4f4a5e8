use Rattle.std.proofs.Common.{◌≡◌, drop}
use Rattle.ps_memory.specs.Writes.{apply}
use Rattle.vm_mem.specs.Writes.{actions}
use Rattle.vm_committed.proofs.cells.Cells.written.Given as goal

-- the writes from a depth on are done
abbrev pub invariant-loop-depth : goal.invariant-loop-depth
invariant-loop-depth l = l.memory ≡ apply (drop l.depth (actions l.writes)) l.self
