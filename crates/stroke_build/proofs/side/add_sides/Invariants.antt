use Rattle.std.proofs.Common.{◌≡◌, ◌++◌, drop}
use Rattle.stroke_build.specs.Sides.{sides_after}
use Rattle.stroke_build.proofs.side.add_sides.Given as goal

abbrev pub invariant-loop-to : goal.invariant-loop-to
invariant-loop-to l = l.sides.items ++ sides_after l.radius l.from (drop l.to-index l.points) ≡ l.fn.sides.items ++ sides_after l.fn.radius l.fn.start l.points
