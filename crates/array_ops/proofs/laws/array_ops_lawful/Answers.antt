use Rattle.array_ops.proofs.Keeping.{run_keeps}
use Rattle.array_ops.proofs.laws.array_ops_lawful.Goals as goal

pub returns : goal.returns
returns c = run_keeps
