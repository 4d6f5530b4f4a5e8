use Rattle.dict_ops.proofs.Keeping.{run_keeps}
use Rattle.dict_ops.proofs.laws.dict_ops_lawful.Goals as goal

pub returns : goal.returns
returns c = run_keeps
