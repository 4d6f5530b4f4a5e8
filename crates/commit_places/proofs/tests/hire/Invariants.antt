use Rattle.std.proofs.Common.{◌≡◌, ◌+◌}
use Rattle.commit_places.proofs.tests.hire.Given as goal

abbrev pub invariant-loop-i : goal.invariant-loop-i
invariant-loop-i l = l.committer ≡ record l.fn.committer { hands = l.fn.committer.hands + l.i }
