use Rattle.std.proofs.Common.{drop}
use Rattle.stroke_build.specs.Corners.{places}
use Rattle.stroke_build.specs.Outlines.{joins}
use Rattle.stroke_build.proofs.Outlining.{IsLeft}
use Rattle.stroke_build.proofs.joins.draw_joins.Given as goal

abbrev pub invariant-loop-side : goal.invariant-loop-side
invariant-loop-side l = IsLeft (places l.polygons) (joins l.pen l.ring l.before (drop l.side-index l.others)) (places l.fn.polygons) (joins l.pen l.ring l.fn.first l.others)
