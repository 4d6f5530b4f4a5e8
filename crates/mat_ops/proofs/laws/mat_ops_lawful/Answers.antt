use Rattle.mat_ops.proofs.Keeping.{run_keeps}
use Rattle.mat_ops.proofs.laws.mat_ops_lawful.Goals as goal

pub returns : goal.returns
returns c = run_keeps
