use Rattle.std.proofs.Common.{◌≡◌, length}
use Rattle.overlay_steps.specs.Pile.{acts}
use Rattle.overlay_steps.specs.Steps.{laid}
use Rattle.overlay_steps.proofs.steps.Steps.put_again.Given as goal

-- the writes with those still kept on top stay
abbrev pub invariant-loop-note : goal.invariant-loop-note
invariant-loop-note l = laid l.kept (acts l.self) ≡ laid l.fn.kept (acts l.fn.self)

abbrev pub decreases-loop-note : goal.decreases-loop-note
decreases-loop-note l = length l.kept
