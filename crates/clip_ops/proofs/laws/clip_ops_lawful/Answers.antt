use Rattle.clip_ops.proofs.Keeping.{run_keeps}
use Rattle.clip_ops.proofs.laws.clip_ops_lawful.Goals as goal

pub returns : goal.returns
returns c = run_keeps
