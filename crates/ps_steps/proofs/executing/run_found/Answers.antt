-- The paper is here.
use Rattle.ps_steps.proofs.Raises.{page_here}
use Rattle.ps_steps.proofs.executing.run_found.Goals as goal

pub returns-in_ok-act-in-Integer-clause-here : goal.returns-in_ok-act-in-Integer-clause-here
returns-in_ok-act-in-Integer-clause-here g c = page_here 1 c.args.text.now c.args.state.now (g.M.Mem.log c.args.mem.now).view c.requires.ready
