use Rattle.std.proofs.Common.{sym, ◌∙◌}
use Rattle.ps_operator.proofs.StoreSteps.{any_miss}
use Rattle.paint_ops.specs.Measuring.{measures}
use Rattle.paint_ops.proofs.measuring.is_measured.Goals as goal

pub loop-depth-preserved : goal.loop-depth-preserved
loop-depth-preserved c =
    sym (any_miss measures c.args.frames.now c.loop-depth.depth c.at.result.now c.at.ensures (sym c.measures.ensures ∙ c.if-measures.false))
    ∙ c.loop-depth.invariant
