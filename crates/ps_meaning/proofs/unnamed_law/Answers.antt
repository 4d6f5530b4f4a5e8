-- By induction over the sections.
use Rattle.ps_meaning.proofs.Kin
use Rattle.ps_meaning.proofs.unnamed_law.Goals as goal

pub returns : goal.returns
returns c = Kin.unnamed_law
