use Rattle.error_ops.proofs.Keeping.{run_keeps}
use Rattle.error_ops.proofs.laws.error_ops_lawful.Goals as goal

pub returns : goal.returns
returns c = run_keeps
