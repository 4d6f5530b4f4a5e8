use Rattle.std.proofs.Common.{sym, ◌∙◌}
use Rattle.ps_operator.proofs.StoreSteps.{any_miss}
use Rattle.control_ops.specs.Leaving.{is_stopped}
use Rattle.control_ops.proofs.leaving.any_stopped.Goals as goal

pub loop-depth-preserved : goal.loop-depth-preserved
loop-depth-preserved c =
    sym (any_miss is_stopped c.args.frames.now c.loop-depth.depth c.at.result.now c.at.ensures (sym c.is_stopped.ensures ∙ c.if-is_stopped.false))
    ∙ c.loop-depth.invariant
