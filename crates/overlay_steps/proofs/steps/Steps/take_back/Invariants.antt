use Rattle.std.proofs.Common.{◌≡◌, length}
use Rattle.ps_memory.specs.Writes.{writes_left}
use Rattle.overlay_steps.specs.Newest.{MadeOnce}
use Rattle.overlay_steps.specs.Pile.{acts}
use Rattle.overlay_steps.specs.Steps.{laid}
use Rattle.overlay_steps.proofs.steps.Steps.take_back.Given as goal

-- what is left of the writes, with those kept on top, stays
abbrev pub invariant-loop-note : goal.invariant-loop-note
invariant-loop-note l = (laid l.kept (writes_left l.name (acts l.self)) ≡ laid l.fn.kept (writes_left l.fn.name (acts l.fn.self))) × MadeOnce (acts l.self)

abbrev pub decreases-loop-note : goal.decreases-loop-note
decreases-loop-note l = length (acts l.self)
