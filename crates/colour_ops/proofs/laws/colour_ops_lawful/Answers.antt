use Rattle.colour_ops.proofs.Keeping.{run_keeps}
use Rattle.colour_ops.proofs.laws.colour_ops_lawful.Goals as goal

pub returns : goal.returns
returns c = run_keeps
