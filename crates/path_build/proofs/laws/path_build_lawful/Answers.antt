use Rattle.path_build.proofs.Keeping.{run_keeps}
use Rattle.path_build.proofs.laws.path_build_lawful.Goals as goal

pub returns : goal.returns
returns c = run_keeps
