-- What is left gives what the whole gives.
use Rattle.std.proofs.Common.{◌≡◌, ◌⊎◌, true, false, ◌-◌, ◌*◌, ◌<◌, ◌≤◌}
use Rattle.ps_fixed.specs.ArcTangents.{bisection, is_no_steeper}
use Rattle.ps_fixed.proofs.angles.bisection.Given as goal

abbrev pub invariant-halve : goal.invariant-halve
invariant-halve l = record {
  apart : l.low < l.high;
  bound : l.high ≤ 90 * 65536;
  below : (l.low ≡ 0) ⊎ (is_no_steeper l.low l.num l.den ≡ true);
  above : (l.high ≡ 90 * 65536) ⊎ (is_no_steeper l.high l.num l.den ≡ false);
  same : bisection l.low l.high l.num l.den ≡ bisection 0 (90 * 65536) l.num l.den;
}

abbrev pub decreases-halve : goal.decreases-halve
decreases-halve l = l.high - l.low
