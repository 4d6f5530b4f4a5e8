use Rattle.std.proofs.Common.{drop}
use Rattle.stroke_build.specs.Corners.{places}
use Rattle.stroke_build.specs.Outlines.{outlines_by}
use Rattle.stroke_build.proofs.Outlining.{IsLeft}
use Rattle.stroke_build.proofs.outline.draw_subpaths.Given as goal

abbrev pub invariant-loop-subpath : goal.invariant-loop-subpath
invariant-loop-subpath l = IsLeft (places l.polygons) (outlines_by l.pen l.ring (drop l.subpath-index l.subpaths)) (places l.fn.polygons) (outlines_by l.pen l.ring l.subpaths)
