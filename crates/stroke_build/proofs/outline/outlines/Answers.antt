use Rattle.std.proofs.Common.{◌∙◌}
use Rattle.stroke_build.proofs.Drawn.{passed_on}
use Rattle.stroke_build.proofs.Outlining.{outlines_are, outlines_drawn, outlines_refused}
use Rattle.stroke_build.proofs.outline.outlines.Goals as goal

pub returns-in_err-draw_subpaths : goal.returns-in_err-draw_subpaths
returns-in_err-draw_subpaths c =
    outlines_refused _ _ _ _ (outlines_are c.args.pen _ c.args.subpaths.now (c.as_slice.ensures.value ∙ c.in_ok-ring.ensures)) (passed_on _ _ c.from_residual-in_err-draw_subpaths.ensures) c.in_err-draw_subpaths.ensures

pub returns : goal.returns
returns c = outlines_drawn _ _ _ _ (outlines_are c.args.pen _ c.args.subpaths.now (c.as_slice.ensures.value ∙ c.in_ok-ring.ensures)) c.new-polygons.ensures c.in_ok-draw_subpaths.ensures
