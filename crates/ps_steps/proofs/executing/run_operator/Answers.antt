-- The paper stays where it is.
use Rattle.ps_steps.proofs.Logs.{ran_here}
use Rattle.ps_steps.proofs.Raises.{page_here}
use Rattle.ps_steps.proofs.executing.run_operator.Goals as goal

pub returns-clause-here : goal.returns-clause-here
returns-clause-here g c =
    let log = g.M.Mem.log c.args.mem.now in
    ran_here (g.T.Operators.table.run c.args.op c.args.text.now) c.args.state.now c.run.new.state c.in_ok-act.act log (g.M.Mem.log c.run.new.mem) c.in_ok-act.ensures
    (page_here 1 c.args.text.now c.args.state.now log.view c.requires)
