use Rattle.std.proofs.Common.{◌≡◌}
use Rattle.std.specs.Prelude.{map}
use Rattle.std.specs.List.{range_with_len}
use Rattle.stroke_build.specs.Outlines.{ring_corner}
use Rattle.stroke_build.proofs.ring.ring.Given as goal

abbrev pub invariant-loop-j : goal.invariant-loop-j
invariant-loop-j l = l.corners.items ≡ map (ring_corner l.radius) (range_with_len 0 l.j)
