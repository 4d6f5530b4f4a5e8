use Rattle.file_ops.proofs.Keeping.{run_keeps}
use Rattle.file_ops.proofs.laws.file_ops_lawful.Goals as goal

pub returns : goal.returns
returns c = run_keeps
