-- First the square comes down to n or below it, then it goes up as far as it may.
use Rattle.std.proofs.Common.{◌*◌, ◌^◌, ◌-◌, ◌<◌, ◌≤◌}
use Rattle.stroke_build.proofs.arithmetic.root.Given as goal

abbrev pub invariant-down : goal.invariant-down
invariant-down l = l.root < 2 ^ 32

abbrev pub decreases-down : goal.decreases-down
decreases-down l = l.root

abbrev pub invariant-up : goal.invariant-up
invariant-up l = record {
  bound : l.root < 2 ^ 32;
  low : l.root * l.root ≤ l.n;
}

abbrev pub decreases-up : goal.decreases-up
decreases-up l = 2 ^ 32 - l.root
