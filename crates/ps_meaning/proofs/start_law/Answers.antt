-- By going through the cells and entries of the start.
use Rattle.ps_meaning.proofs.Start
use Rattle.ps_meaning.proofs.start_law.Goals as goal

pub returns : goal.returns
returns c = Start.start_law
