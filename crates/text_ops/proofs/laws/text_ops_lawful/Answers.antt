use Rattle.text_ops.proofs.Keeping.{run_keeps}
use Rattle.text_ops.proofs.laws.text_ops_lawful.Goals as goal

pub returns : goal.returns
returns c = run_keeps
