use Rattle.std.proofs.Common.{sym, ◌∙◌}
use Rattle.ps_operator.proofs.StoreSteps.{any_miss}
use Rattle.colour_ops.specs.Glyphs.{shows_mask}
use Rattle.colour_ops.proofs.glyphs.any_mask.Goals as goal

pub loop-depth-preserved : goal.loop-depth-preserved
loop-depth-preserved c =
    sym (any_miss shows_mask c.args.frames.now c.loop-depth.depth c.at.result.now c.at.ensures (sym c.shows_mask.ensures ∙ c.if-shows_mask.false))
    ∙ c.loop-depth.invariant
