-- A store commutes with what stands between the two.
use Rattle.ps_memory.proofs.Replace
use Rattle.ps_memory.proofs.replacing_law.Goals as goal

pub returns : goal.returns
returns c = Replace.replacing_law
