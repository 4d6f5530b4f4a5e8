-- What functions owe for their trees. Want of memory is always free: then nothing is said of what is left.
use Rattle.std.specs.Prelude.{◌≡◌, Result, Ok, Err, ⊤}
use Rattle.copy_lists.specs.declared.memory.NoMemory.{NoMemory}
use Rattle.ps_objects.specs.declared.refusal.Refusal.{Refusal}
use Rattle.ps_objects.specs.declared.refusal.Refusal.TheVariants as refusal
use Rattle.ps_kinds.specs.declared.act.Act.{Act}
use Rattle.ps_kinds.specs.declared.act.Act.TheVariants as act
use Rattle.ps_kinds.specs.declared.state.State.{State}
use Rattle.ps_memory.specs.Tree.{Application}
use Rattle.ps_meaning.specs.Answer.{Log, Answer, answer, step_answer}
use Rattle.ps_operator.specs.Tree.{Ask, Reading, reads}

-- ---- one answer

-- a function's act, its state and its log are those of the answer
abbrev pub Meets : Answer → Result Act Refusal → State → Log → Type 0
Meets a (Ok x) s log = a ≡ record { act = x; state = s; log = log }
Meets a (Err (refusal.Error e)) s log = a ≡ record { act = act.Fail e; state = s; log = log }
Meets a (Err refusal.NoMemory) s log = ⊤

-- the same of a function whose act is always Done
abbrev pub MeetsDone : Answer → Result (Unit {0}) Refusal → State → Log → Type 0
MeetsDone a (Ok u) s log = a ≡ record { act = act.Done; state = s; log = log }
MeetsDone a (Err (refusal.Error e)) s log = a ≡ record { act = act.Fail e; state = s; log = log }
MeetsDone a (Err refusal.NoMemory) s log = ⊤

-- the same of a function that tells a refusal as an act
abbrev pub Gives : Answer → Result Act NoMemory → State → Log → Type 0
Gives a (Ok x) s log = a ≡ record { act = x; state = s; log = log }
Gives a (Err e) s log = ⊤

-- ---- operators

-- from a state and a log, a function does what the operator does; its act is always Done
abbrev pub Does : (State → Ask) → State → Log → Result (Unit {0}) Refusal → State → Log → Type 0
Does t before old r s log = MeetsDone (answer (t before) before old) r s log

-- the same of an operator that touches no memory
abbrev pub DoesAlone : (State → Ask) → State → Result (Unit {0}) Refusal → State → Type 0
DoesAlone t before r s = (log : Log) → Does t before log r s log

-- the same of an operator with acts of several kinds
abbrev pub Acts : (State → Ask) → State → Log → Result Act Refusal → State → Log → Type 0
Acts t before old r s log = Meets (answer (t before) before old) r s log

-- the same of such an operator that touches no memory
abbrev pub ActsAlone : (State → Ask) → State → Result Act Refusal → State → Type 0
ActsAlone t before r s = (log : Log) → Acts t before log r s log

-- the same as the machine is told it
abbrev pub Runs : (State → Ask) → State → Log → Result Act NoMemory → State → Log → Type 0
Runs t before old r s log = Gives (answer (t before) before old) r s log

-- ---- steps of the newest frame

-- the same of a step
abbrev pub Steps : (State → Ask) → State → Log → Result Act Refusal → State → Log → Type 0
Steps t before old r s log = Meets (step_answer (t before) before old) r s log

-- the same of a step that touches no memory
abbrev pub StepsAlone : (State → Ask) → State → Result Act Refusal → State → Type 0
StepsAlone t before r s = (log : Log) → Steps t before log r s log

-- the same as the machine is told it
abbrev pub RunsStep : (State → Ask) → State → Log → Result Act NoMemory → State → Log → Type 0
RunsStep t before old r s log = Gives (step_answer (t before) before old) r s log

-- ---- functions that look

-- such a function found what the tree finds
abbrev pub Yields : {A : Type 0} → Application A → Log → Result A Refusal → Log → Type 0
Yields t old (Ok x) log = reads t old ≡ record { outcome = Ok x; log = log }
Yields t old (Err (refusal.Error e)) log = reads t old ≡ record { outcome = Err e; log = log }
Yields t old (Err refusal.NoMemory) log = ⊤

-- this is what the tree finds, and the log after it
abbrev pub Finds : {A : Type 0} → Application A → Log → A → Log → Type 0
Finds t old x log = reads t old ≡ record { outcome = Ok x; log = log }

-- ---- what the machine is told of a result

-- an act, or that the operator failed
abbrev pub told : Result Act Refusal → Result Act NoMemory
told (Ok a) = Ok a
told (Err (refusal.Error e)) = Ok (act.Fail e)
told (Err refusal.NoMemory) = Err (record {})

-- that the operator is done, or that it failed
abbrev pub told_done : Result (Unit {0}) Refusal → Result Act NoMemory
told_done (Ok u) = Ok act.Done
told_done (Err (refusal.Error e)) = Ok (act.Fail e)
told_done (Err refusal.NoMemory) = Err (record {})
