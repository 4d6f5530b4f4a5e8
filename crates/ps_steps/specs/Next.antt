-- What the machine does next, as a move.
use Rattle.std.specs.Prelude.{◌≡◌, Bool, true, false, List, [], Result, Ok, Err, ℕ, ⊤}
use Rattle.copy_lists.specs.declared.memory.NoMemory.{NoMemory}
use Rattle.ps_kinds.specs.declared.state.State.{State}
use Rattle.ps_memory.specs.Memory.{message, tell}
use Rattle.ps_memory.specs.Tree.{Tree, ends, acts}
use Rattle.ps_meaning.specs.Answer.{Log}
use Rattle.ps_execution.specs.Execution as execution
use Rattle.ps_execution.specs.Execution.{shows}
use Rattle.ps_execution.specs.Machine.{Move, goes, raised, ended}
use Rattle.ps_execution.specs.Reached.{Reached, outer, reached}
use Rattle.ps_execution.specs.Table.{Table, Program}
use Rattle.vm_mem.specs.Conditions.{page_is_here}
use Rattle.ps_steps.specs.declared.next.Next.{Next}
use Rattle.ps_steps.specs.declared.next.Next.TheVariants as next
use Rattle.ps_steps.specs.declared.next.Outcome.{Outcome}
use Rattle.ps_steps.specs.declared.next.Outcome.TheVariants as outcome

-- a table and a text as a program
abbrev pub program : Table → List ℕ → Program
program T text = record { table = T; text = text }

-- how a run ends
abbrev pub outcome_of : Outcome → execution.Outcome
outcome_of outcome.Next = execution.Next
outcome_of outcome.Exit = execution.Exit
outcome_of outcome.Stop = execution.Stop
outcome_of outcome.Quit = execution.Quit
outcome_of outcome.Spent = execution.Spent

-- a step can be made
abbrev pub is_step : Next → Bool
is_step next.Goes = true
is_step (next.Raised e x) = true
is_step (next.Says t) = false
is_step (next.Shows wipe) = false
is_step (next.Ended o) = false
is_step (next.Outer q) = false

-- the move, once a message or a page was given out; an outer restore is no move
abbrev pub move_of : Next → State → Move
move_of next.Goes s = goes s
move_of (next.Raised e x) s = raised e x s
move_of (next.Says t) s = goes s
move_of (next.Shows wipe) s = goes s
move_of (next.Ended o) s = ended (outcome_of o) s
move_of (next.Outer q) s = ended execution.Spent s

-- what is to be given out before it
abbrev pub giving : Next → State → Tree Move
giving (next.Says t) s = acts (tell (message t)) (ends (goes s))
giving (next.Shows wipe) s = shows wipe s (ends (goes s))
giving n s = ends (move_of n s)

-- A step comes to this, from which all that is left of it is to give out. Where a page is given out, its paper is here.
abbrev pub IsNext : Reached Move → Next → State → Log → Type 0
IsNext r (next.Outer q) s log = r ≡ outer q
IsNext r (next.Shows wipe) s log = (r ≡ reached (giving (next.Shows wipe) s) log []) × (page_is_here log.view ≡ true)
IsNext r n s log = r ≡ reached (giving n s) log []

-- what a function leaves of a step that comes to this, unless memory ran out
abbrev pub Comes : Reached Move → Result Next NoMemory → State → Log → Type 0
Comes r (Ok n) s log = IsNext r n s log
Comes r (Err e) s log = ⊤

-- what a function leaves of a step from a log on
abbrev pub Makes : Tree Move → Log → Result Next NoMemory → State → Log → Type 0
Makes t old r s log = Comes (reached t old []) r s log

-- an exit or a stop
abbrev pub outcome_at : Bool → execution.Outcome
outcome_at true = execution.Stop
outcome_at false = execution.Exit

-- once a frame has taken it, or not
abbrev pub outcome_if : Bool → Bool → execution.Outcome
outcome_if true stop = execution.Next
outcome_if false stop = outcome_at stop
