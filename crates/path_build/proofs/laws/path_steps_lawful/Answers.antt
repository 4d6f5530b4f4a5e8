use Rattle.path_build.proofs.StepKeeping.{steps_keep}
use Rattle.path_build.proofs.laws.path_steps_lawful.Goals as goal

pub returns : goal.returns
returns c = steps_keep
