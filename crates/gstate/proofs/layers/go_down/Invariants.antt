use Rattle.std.proofs.Common.{◌≡◌, length}
use Rattle.gstate.specs.Layers.{lowest}
use Rattle.gstate.proofs.layers.go_down.Given as goal

-- from the layers that are left one comes to the same as from all
abbrev pub invariant-loop-states : goal.invariant-loop-states
invariant-loop-states l = lowest l.states ≡ lowest l.fn.states

abbrev pub decreases-loop-states : goal.decreases-loop-states
decreases-loop-states l = length l.states
