-- What sections leave is sound.
use Rattle.job_run.proofs.Left.{left}
use Rattle.job_run.proofs.left_law.Goals as goal

pub returns : goal.returns
returns c = left
