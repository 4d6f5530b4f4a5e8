-- The form that the newest operand tells.
use Rattle.std.proofs.Common.{sym, ◌∙◌}
use Rattle.mat_ops.specs.Changing.{fills_with, moves}
use Rattle.mat_ops.proofs.Going.{does_second}
use Rattle.mat_ops.proofs.changing.change.Goals as goal

pub returns-else-is_array_at : goal.returns-else-is_array_at
returns-else-is_array_at g c =
    let old = g.M.Mem.log c.args.mem.now in
    does_second (fills_with c.args.motion) (moves c.args.motion) c.args.state.now c.change_current.new.state old old c.change_current.result
    (sym c.is_array_at.ensures ∙ c.if-is_array_at.false) (c.change_current.ensures old)
