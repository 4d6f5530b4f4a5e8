-- The paper stays where it is.
use Rattle.ps_steps.specs.Operators.{step_of}
use Rattle.ps_steps.proofs.Logs.{stepped_here}
use Rattle.ps_steps.proofs.Raises.{page_here}
use Rattle.ps_steps.proofs.walking.free_step.Goals as goal

pub settle-requires : goal.settle-requires
settle-requires g c =
    let log = g.M.Mem.log c.args.mem.now in
    stepped_here (step_of g.T.Operators.table c.args.text.now) c.args.state.now c.step.new.state c.in_ok-act.act log (g.M.Mem.log c.step.new.mem) c.in_ok-act.ensures
    (page_here 1 c.args.text.now c.args.state.now log.view c.requires.ready)
