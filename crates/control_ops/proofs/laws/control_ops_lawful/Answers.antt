use Rattle.control_ops.proofs.Keeping.{run_keeps}
use Rattle.control_ops.proofs.laws.control_ops_lawful.Goals as goal

pub returns : goal.returns
returns c = run_keeps
