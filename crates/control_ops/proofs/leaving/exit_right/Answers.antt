use Rattle.std.proofs.Common.{sym, ◌∙◌}
use Rattle.control_ops.proofs.Exits.{exit_passed}
use Rattle.control_ops.proofs.leaving.exit_right.Goals as goal

pub loop-depth-preserved : goal.loop-depth-preserved
loop-depth-preserved c =
    sym (exit_passed c.args.frames.now c.loop-depth.depth c.at-frame.result.now c.at-frame.ensures (sym c.is_loop.ensures ∙ c.if-is_loop.false) (sym c.is_barrier.ensures ∙ c.if-is_barrier.false))
    ∙ c.loop-depth.invariant
