-- By one induction over the tree.
use Rattle.ps_memory.proofs.Frame
use Rattle.ps_memory.proofs.frame_law.Goals as goal

pub returns : goal.returns
returns g c = Frame.frame_law _
