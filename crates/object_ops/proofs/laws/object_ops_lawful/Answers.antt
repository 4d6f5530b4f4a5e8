use Rattle.object_ops.proofs.Keeping.{run_keeps}
use Rattle.object_ops.proofs.laws.object_ops_lawful.Goals as goal

pub returns : goal.returns
returns c = run_keeps
