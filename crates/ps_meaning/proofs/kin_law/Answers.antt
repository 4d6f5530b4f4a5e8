-- By induction over the sections.
use Rattle.ps_meaning.proofs.Kin
use Rattle.ps_meaning.proofs.kin_law.Goals as goal

pub returns : goal.returns
returns c = Kin.kin_law
