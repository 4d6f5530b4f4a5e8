-- By one induction over the tree for each of the three.
use Rattle.ps_memory.proofs.Track
use Rattle.ps_memory.proofs.track_law.Goals as goal

pub returns : goal.returns
returns g c = Track.track_law _
