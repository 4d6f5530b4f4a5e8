-- The form that the newest operand tells.
use Rattle.std.proofs.Common.{sym, ◌∙◌}
use Rattle.mat_ops.specs.Carrying.{by_array, by_current}
use Rattle.mat_ops.proofs.Going.{does_second}
use Rattle.mat_ops.proofs.carrying.carry.Goals as goal

pub returns-else-is_array_at : goal.returns-else-is_array_at
returns-else-is_array_at g c =
    let old = g.M.Mem.log c.args.mem.now in
    does_second (by_array c.args.way) (by_current c.args.way) c.args.state.now c.by_current.new.state old old c.by_current.result
    (sym c.is_array_at.ensures ∙ c.if-is_array_at.false) (c.by_current.ensures old)
