-- An exit or a stop that comes to a frame.
use Rattle.std.specs.Prelude.{◌≡◌, Bool, List, Result, Ok, Err, ⊤}
use Rattle.copy_lists.specs.declared.memory.NoMemory.{NoMemory}
use Rattle.ps_kinds.specs.declared.state.State.{State}
use Rattle.ps_memory.specs.Memory.{Output}
use Rattle.ps_memory.specs.Tree.{Tree}
use Rattle.ps_meaning.specs.Answer.{Log}
use Rattle.ps_execution.specs.Execution.{Ending}
use Rattle.ps_execution.specs.Reached.{reached, came}
use Rattle.ps_steps.specs.Next.{outcome_if}

-- a frame that is left so has taken it, or lets it pass
abbrev pub Takes : Tree Ending → Bool → Log → Result Bool NoMemory → State → Log → Type 0
Takes t stop old (Ok taken) s log = (out : List Output) → reached t old out ≡ came (record { outcome = outcome_if taken stop; state = s }) log out
Takes t stop old (Err e) s log = ⊤
