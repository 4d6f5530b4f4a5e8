-- Writes as actions.
use Rattle.std.specs.Prelude.{◌≡◌, List, map}
use Rattle.ps_memory.specs.Memory.{Action, store, fresh, save}
use Rattle.ps_memory.specs.Writes.{apply}
use Rattle.ps_meaning.specs.Answer.{Log}
use Rattle.vm_mem.specs.Acts.{removal}
use Rattle.vm_mem.specs.declared.writes.Write.{Write}
use Rattle.vm_mem.specs.declared.writes.Write.TheVariants.{Fresh, Put, Remove, Save}

-- what a step does
abbrev pub action_of : Write → Action
action_of (Fresh c sh) = fresh c sh
action_of (Put l v) = store l v
action_of (Remove d k) = removal d k
action_of (Save s) = save s

-- what writes do, the newest first
abbrev pub actions : List Write → List Action
actions = map action_of

-- the writes are done on one memory and give another
abbrev pub Applies : List Write → Log → Log → Type 0
Applies ws old new = new.view ≡ apply (actions ws) old.view
