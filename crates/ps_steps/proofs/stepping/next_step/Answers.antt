-- Where no frame stands.
use Rattle.std.proofs.Common.{[], sym, subst}
use Rattle.ps_steps.specs.Next.{program, Comes}
use Rattle.ps_steps.proofs.Moves.{none_moves}
use Rattle.ps_steps.proofs.stepping.next_step.Goals as goal

pub returns-in-None : goal.returns-in-None
returns-in-None g c =
    subst (λ r. Comes r c.section_step.result c.section_step.new.state (g.M.Mem.log c.section_step.new.mem))
    (sym (none_moves (program g.T.Operators.table c.args.text.now) c.args.state.now c.pop.new.self (g.M.Mem.log c.args.mem.now) [] c.in-None.ensures.0 c.in-None.ensures.1))
    c.section_step.ensures
