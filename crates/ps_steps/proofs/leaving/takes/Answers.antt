-- The paper stays where it is.
use Rattle.ps_steps.proofs.Logs.{left_here}
use Rattle.ps_steps.proofs.leaving.takes.Goals as goal

pub returns-in_ok-leave-in-Show-clause-here : goal.returns-in_ok-leave-in-Show-clause-here
returns-in_ok-leave-in-Show-clause-here g c =
    left_here (g.T.Operators.table.leave c.as_ref.result.now) c.args.state.now c.leave.new.state (g.M.Mem.log c.args.mem.now) (g.M.Mem.log c.leave.new.mem) c.in_ok-leave-in-Show.ensures c.requires
