use Rattle.gstate.proofs.Keeping.{run_keeps}
use Rattle.gstate.proofs.laws.gstate_lawful.Goals as goal

pub returns : goal.returns
returns c = run_keeps
