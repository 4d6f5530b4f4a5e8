use Rattle.std.proofs.Common.{drop}
use Rattle.std.specs.Prelude.{map}
use Rattle.stroke_build.specs.Corners.{places}
use Rattle.stroke_build.specs.Outlines.{side_polygon}
use Rattle.stroke_build.proofs.Outlining.{IsLeft}
use Rattle.stroke_build.proofs.outline.draw_sides.Given as goal

abbrev pub invariant-loop-side : goal.invariant-loop-side
invariant-loop-side l = IsLeft (places l.polygons) (map side_polygon (drop l.side-index l.sides)) (places l.fn.polygons) (map side_polygon l.sides)
