-- What a run of the machine gives out, and what it comes to.
use Rattle.std.specs.Prelude.{◌≡◌, ℕ, List, [], ◌∷◌, Option, Result, Ok, Err, ⊤}
use Rattle.ps_shapes.specs.Sheet.{Sheet}
use Rattle.ps_kinds.specs.declared.state.State.{State}
use Rattle.ps_objects.specs.declared.place.Loc.TheVariants as loc
use Rattle.ps_memory.specs.Memory.{Memory, value_at, Output, picture}
use Rattle.ps_memory.specs.Tree.{Tree, trail, told_by}
use Rattle.ps_meaning.specs.Answer.{Log}
use Rattle.ps_meaning.specs.Registers.{world_of}
use Rattle.ps_meaning.specs.Sound.{SoundMemory}
use Rattle.ps_execution.specs.Execution.{Ending, sheet_in, on}
use Rattle.ps_execution.specs.Machine.{Move, goes, step, rest_of}
use Rattle.ps_execution.specs.Reached.{Reached, came, outer, reached}
use Rattle.ps_execution.specs.Table.{Table, Program}
use Rattle.ps_steps.specs.Next.{program, outcome_of, move_of}
use Rattle.ps_steps.specs.declared.next.Next.{Next}
use Rattle.ps_steps.specs.declared.next.Next.TheVariants as next
use Rattle.ps_machine.specs.Lines.{papers_of, messages_of, last_byte}
use Rattle.ps_machine.specs.declared.refusal.RunRefusal.{RunRefusal}
use Rattle.ps_machine.specs.declared.running.Halt.{Halt}
use Rattle.ps_machine.specs.declared.running.Halt.TheVariants as halt

-- the outputs of a run on a memory
abbrev pub told : {A : Type 0} → Tree A → Memory → List Output
told t M = told_by (trail t M)

-- the outputs of what was reached; nothing is said of those before an outer restore
abbrev pub given : {A : Type 0} → Reached A → List Output
given (came a log out) = out
given (outer q) = []

-- the paper that is given out
abbrev pub shown : Log → List Output
shown log = picture (sheet_in (value_at log.view loc.Paper)) ∷ []

-- ---- a step

-- what a step comes to
abbrev pub stepped : Table → List ℕ → Next → State → Log → Reached Move
stepped T text n s log = reached (step (program T text) (move_of n s)) log []

-- what is next is a step, or nothing
abbrev pub is_quiet : Next → Type 0
is_quiet (next.Says t) = ⊥
is_quiet (next.Shows wipe) = ⊥
is_quiet n = ⊤

-- a step comes to this, and its outputs were given out
abbrev pub Advances : Reached Move → Result Next RunRefusal → State → Log → Type 0
Advances r (Ok (next.Outer q)) s log = r ≡ outer q
Advances r (Ok n) s log = r ≡ came (move_of n s) log (given r)
Advances r (Err e) s log = ⊤

-- ---- a run to its end

-- all that comes of the section's text and the frames of a state
abbrev pub whole_of : Table → List ℕ → State → Tree Ending
whole_of T text s = rest_of (program T text) (goes s)

-- what holds of an outlet since a run began, which has given out these
abbrev pub Since : {O : Type 0} → (O → O → List Sheet → List ℕ → Type 0) → O → O → List Output → Type 0
Since since new old out = since new old (papers_of out) (messages_of out)

-- a run has come to its end, with the last byte that it said, or to its first outer restore
abbrev pub Ends : {O : Type 0} → (O → O → List Sheet → List ℕ → Type 0) → Tree Ending → Log → Result Halt RunRefusal → State → Log → O → O → Type 0
Ends since t old (Ok (halt.Outer q)) s log new out = reached t old [] ≡ outer q
Ends since t old (Ok (halt.Ended o last)) s log new out =
    (reached t old [] ≡ came (record { outcome = outcome_of o; state = on [] s }) log (told t old.view))
    × Since since new out (told t old.view)
    × (last ≡ last_byte (messages_of (told t old.view)))
Ends since t old (Err e) s log new out = ⊤

-- a run that came to its end leaves a sound memory
abbrev pub IsSoundEnd : Result Halt RunRefusal → State → Memory → Type 0
IsSoundEnd (Ok (halt.Ended o last)) s M = SoundMemory (world_of s.section M) M
IsSoundEnd (Ok (halt.Outer q)) s M = ⊤
IsSoundEnd (Err e) s M = ⊤
