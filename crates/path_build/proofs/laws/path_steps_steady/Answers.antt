use Rattle.path_build.proofs.StepKeeping.{steps_calm}
use Rattle.path_build.proofs.laws.path_steps_steady.Goals as goal

pub returns : goal.returns
returns c = steps_calm
