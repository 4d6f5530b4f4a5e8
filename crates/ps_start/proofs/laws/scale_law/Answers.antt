-- By the bound on the quotient.
use Rattle.ps_start.proofs.Scales
use Rattle.ps_start.proofs.laws.scale_law.Goals as goal

pub returns : goal.returns
returns c = Scales.scale_law
