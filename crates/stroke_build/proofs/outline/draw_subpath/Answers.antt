use Rattle.std.proofs.Common.{◌∙◌}
use Rattle.stroke_build.proofs.Drawn.{drawn_as}
use Rattle.stroke_build.proofs.Outlining.{outline_is}
use Rattle.stroke_build.proofs.outline.draw_subpath.Goals as goal

pub returns : goal.returns
returns c = drawn_as _ _ _ _ _ (outline_is c.args.pen c.args.ring.now c.args.subpath.now c.as_slice.result.now (c.as_slice.ensures.value ∙ c.in_ok-sides.ensures)) c.draw_sides_of.ensures
