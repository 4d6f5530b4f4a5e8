-- What newer writes did to local memory goes with them.
use Rattle.ps_memory.proofs.Undo
use Rattle.ps_memory.proofs.restoring_law.Goals as goal

pub returns : goal.returns
returns c = Undo.restoring_law
