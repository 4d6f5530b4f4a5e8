use Rattle.vm_start.proofs.StartSteps.{system_made}
use Rattle.vm_start.proofs.start.system_dict.Goals as goal

pub returns : goal.returns
returns c = system_made _ _ _ c.dictionary.ensures c.in_ok-put_values.ensures c.in_ok-entries.ensures
