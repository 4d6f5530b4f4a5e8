use Rattle.std.proofs.Common.{◌≡◌}
use Rattle.ps_memory.specs.Writes.{apply, Applicable}
use Rattle.vm_mem.specs.Writes.{actions}
use Rattle.vm_cells.proofs.asked.written.Given as goal

-- the writes so far make of the memory what stands, and each met its condition
abbrev pub invariant-loop-step : goal.invariant-loop-step
invariant-loop-step l = (l.after ≡ apply (actions l.writes) l.memory) × Applicable (actions l.writes) l.memory
