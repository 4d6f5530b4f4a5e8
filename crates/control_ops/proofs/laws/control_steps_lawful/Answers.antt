use Rattle.control_ops.proofs.StepKeeping.{steps_keep}
use Rattle.control_ops.proofs.laws.control_steps_lawful.Goals as goal

pub returns : goal.returns
returns c = steps_keep
