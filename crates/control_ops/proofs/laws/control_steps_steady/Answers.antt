use Rattle.control_ops.proofs.StepKeeping.{steps_calm}
use Rattle.control_ops.proofs.laws.control_steps_steady.Goals as goal

pub returns : goal.returns
returns c = steps_calm
