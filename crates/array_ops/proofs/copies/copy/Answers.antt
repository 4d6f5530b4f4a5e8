use Rattle.std.proofs.Common.{sym, ◌∙◌}
use Rattle.array_ops.specs.Intervals.{copy_operands, copy}
use Rattle.array_ops.proofs.Going.{does_as, operands_go}
use Rattle.array_ops.proofs.copies.copy.Goals as goal

pub returns-then-is_integer_at : goal.returns-then-is_integer_at
returns-then-is_integer_at g c =
    let old = g.M.Mem.log c.args.mem.now in
    let s = c.args.state.now in
    does_as copy copy_operands s c.copy_operands.new.state old old c.copy_operands.result
    (operands_go s (sym c.in_ok-need.ensures) (sym c.is_integer_at.ensures ∙ c.if-is_integer_at.true)) (c.copy_operands.ensures old)
