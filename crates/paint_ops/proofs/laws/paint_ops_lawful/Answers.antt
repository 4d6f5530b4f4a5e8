use Rattle.paint_ops.proofs.Keeping.{run_keeps}
use Rattle.paint_ops.proofs.laws.paint_ops_lawful.Goals as goal

pub returns : goal.returns
returns c = run_keeps
