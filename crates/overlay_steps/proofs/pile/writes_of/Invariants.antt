use Rattle.std.proofs.Common.{◌≡◌, [], length}
use Rattle.vm_mem.specs.Writes.{actions}
use Rattle.overlay_steps.specs.Steps.{laid}
use Rattle.overlay_steps.proofs.pile.writes_of.Given as goal

-- the writes with the notes that are left on top stay
abbrev pub invariant-loop-note : goal.invariant-loop-note
invariant-loop-note l = laid l.notes (actions l.writes) ≡ laid l.fn.notes []

abbrev pub decreases-loop-note : goal.decreases-loop-note
decreases-loop-note l = length l.notes
