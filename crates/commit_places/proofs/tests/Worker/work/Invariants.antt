use Rattle.std.proofs.Common.{◌≡◌}
use Rattle.commit_places.specs.Seats.{MayDraw}
use Rattle.commit_places.proofs.tests.Worker.work.Given as goal

abbrev pub invariant-loop : goal.invariant-loop
invariant-loop g l =
    (goal.iterator-loop g).can_next l.iterator' × (goal.iterator-loop g).is_finite l.iterator' × (l.hand.places ≡ l.places) × MayDraw l.hand
