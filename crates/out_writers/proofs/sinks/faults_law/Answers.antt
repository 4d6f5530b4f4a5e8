use Rattle.out_writers.proofs.Faults.{one_rose}
use Rattle.out_writers.proofs.sinks.faults_law.Goals as goal

pub returns : goal.returns
returns c = one_rose
