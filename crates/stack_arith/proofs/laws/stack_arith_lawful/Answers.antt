use Rattle.stack_arith.proofs.Keeping.{run_keeps}
use Rattle.stack_arith.proofs.laws.stack_arith_lawful.Goals as goal

pub returns : goal.returns
returns c = run_keeps
