-- What the reading of an object relies on, and what it owes.
use Rattle.std.specs.Prelude.{◌≡◌, ℕ, List}
use Rattle.ps_kinds.specs.declared.state.State.{State}
use Rattle.ps_memory.specs.Memory.{Memory, Output}
use Rattle.ps_meaning.specs.Answer.{Log}
use Rattle.ps_meaning.specs.Ready.{Fits}
use Rattle.ps_meaning.specs.Registers.{world_of}
use Rattle.ps_meaning.specs.Sound.{SoundMemory}
use Rattle.ps_execution.specs.Execution.{Read, reads}
use Rattle.ps_execution.specs.Gather.{gather}
use Rattle.ps_execution.specs.Lawful.{IsPaid}
use Rattle.ps_execution.specs.Reached.{reached, came}

-- a state that fits a sound memory, in which so many names have no turn and no unit of their own
pub record IsReady (n : ℕ) (text : List ℕ) (s : State) (M : Memory) : Type 0 where
  pub fits : Fits text (world_of s.section M) s
  pub memory : SoundMemory (world_of s.section M) M
  pub paid : IsPaid n s

-- From a state and a log, the run of the reading at a place of these bytes comes to this object, place and state, and to this log.
abbrev pub Reads : List ℕ → ℕ → State → Log → Read → Log → Type 0
Reads bytes place s log read there =
    (out : List Output) → reached (reads (gather bytes place s) s) log out ≡ came read there out
