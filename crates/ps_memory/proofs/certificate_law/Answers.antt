-- By the frame law, and by what each action does to the writes.
use Rattle.ps_memory.proofs.Writes
use Rattle.ps_memory.proofs.certificate_law.Goals as goal

pub returns : goal.returns
returns g c = Writes.certificate_law _
