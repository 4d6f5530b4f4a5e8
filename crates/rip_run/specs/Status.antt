-- The answers of a top call.
use Rattle.std.specs.Prelude.{◌≡◌, ℕ, List, Option}
use Rattle.rip_ports.specs.Ports.{Appends, AppendsFront}
use Rattle.rip_run.specs.declared.status.Status.{Status}
use Rattle.rip_run.specs.declared.status.Status.TheVariants as status

-- the program's exit status
abbrev pub exit_of : Status → ℕ
exit_of (status.Done _) = 0
exit_of (status.JobError _) = 1
exit_of status.Usage = 2
exit_of status.TooLarge = 3
exit_of (status.TooManyPages _) = 3
exit_of status.ReadFault = 4
exit_of status.WriteFault = 5
exit_of status.NoMemory = 6

-- no fault and no want of memory: the answer is the job's result
abbrev pub IsDefined : Status → Type 0
IsDefined status.ReadFault = ⊥
IsDefined status.WriteFault = ⊥
IsDefined status.NoMemory = ⊥
IsDefined _ = Unit {0}

-- the job was run to its end
abbrev pub IsRun : Status → Type 0
IsRun (status.Done _) = Unit {0}
IsRun (status.JobError _) = Unit {0}
IsRun _ = ⊥

-- the answer comes after the job was read to its end
abbrev pub IsAfterReading : Status → Type 0
IsAfterReading (status.Done _) = Unit {0}
IsAfterReading (status.JobError _) = Unit {0}
IsAfterReading (status.TooManyPages _) = Unit {0}
IsAfterReading _ = ⊥

-- the job was run to its end, or memory ran out
abbrev pub IsRunOrWanting : Status → Type 0
IsRunOrWanting status.NoMemory = Unit {0}
IsRunOrWanting s = IsRun s

-- the words are refused, or a sink failed, or memory ran out
abbrev pub IsRefusal : Status → Type 0
IsRefusal status.Usage = Unit {0}
IsRefusal status.WriteFault = Unit {0}
IsRefusal status.NoMemory = Unit {0}
IsRefusal _ = ⊥

-- what a sink got of the defined bytes: nothing where the source failed, some front of them where a sink failed
-- or memory ran out, else all
abbrev pub Writes : Status → List ℕ → Option (List ℕ) → Option (List ℕ) → Type 0
Writes status.ReadFault bytes before after = after ≡ before
Writes status.WriteFault bytes before after = AppendsFront bytes before after
Writes status.NoMemory bytes before after = AppendsFront bytes before after
Writes _ bytes before after = Appends bytes before after
