use Rattle.commit_desk.proofs.Runs.{taken_was_laid, laid_once}
use Rattle.commit_desk.proofs.law.taken_is_laid_down.Goals as goal

pub returns : goal.returns
returns g c = record { before = taken_was_laid; no_other = laid_once }
