-- A place that was looked at is owned or seen.
use Rattle.ps_meaning.proofs.Looks
use Rattle.ps_meaning.proofs.second_look_law.Goals as goal

pub returns : goal.returns
returns c = Looks.second_look_law
