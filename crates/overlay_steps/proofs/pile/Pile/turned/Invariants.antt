use Rattle.std.proofs.Common.{◌≡◌, length}
use Rattle.overlay_steps.specs.Pile.{acts}
use Rattle.overlay_steps.specs.Steps.{laid}
use Rattle.overlay_steps.proofs.pile.Pile.turned.Given as goal

-- what is left with the notes on top stays
abbrev pub invariant-loop-step : goal.invariant-loop-step
invariant-loop-step l = laid l.notes (acts l.pile) ≡ acts l.fn.self

abbrev pub decreases-loop-step : goal.decreases-loop-step
decreases-loop-step l = length l.pile
