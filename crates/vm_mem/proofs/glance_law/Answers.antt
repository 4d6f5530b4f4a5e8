-- By cases on the value.
use Rattle.vm_mem.proofs.Glances
use Rattle.vm_mem.proofs.glance_law.Goals as goal

pub returns : goal.returns
returns c = Glances.glance_law
