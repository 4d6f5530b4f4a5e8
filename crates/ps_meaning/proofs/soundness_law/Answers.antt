-- By one induction over the tree.
use Rattle.ps_meaning.proofs.Ground
use Rattle.ps_meaning.proofs.soundness_law.Goals as goal

pub returns : goal.returns
returns g c = Ground.soundness_law _
