-- The conditions and clauses of a table of operators in code.
use Rattle.std.specs.Prelude.{◌≡◌, ℕ, suc, Bool, true, false, List, [], ◌∷◌, Result, Ok, Err, ⊤}
use Rattle.copy_lists.specs.declared.memory.NoMemory.{NoMemory}
use Rattle.ps_names.specs.declared.error_name.ErrorName.TheVariants.{Undefined}
use Rattle.ps_objects.specs.declared.object.Object.{Object}
use Rattle.ps_objects.specs.declared.place.Loc.TheVariants as loc
use Rattle.ps_objects.specs.declared.place.Value.TheVariants as value
use Rattle.ps_kinds.specs.declared.act.Act.{Act}
use Rattle.ps_kinds.specs.declared.act.Act.TheVariants as act
use Rattle.ps_kinds.specs.declared.frame.Frame.{Frame}
use Rattle.ps_kinds.specs.declared.state.State.{State}
use Rattle.ps_memory.specs.Memory.{Memory, blank, store, shape_at}
use Rattle.ps_memory.specs.Tree.{fail}
use Rattle.ps_meaning.specs.Answer.{Log, acted_in, Answer}
use Rattle.ps_meaning.specs.Fits.{FitsObject}
use Rattle.ps_operator.specs.Tree.{Ask}
use Rattle.ps_execution.specs.Budgets.{left, counted}
use Rattle.ps_execution.specs.Lawful.{takes_steps}
use Rattle.ps_execution.specs.Table.{Leaving, Table}

-- what an object names stands
abbrev pub FitsHere : Memory → Object → Type 0
FitsHere M x = FitsObject (shape_at M) x

-- if an act is a failure
abbrev pub IsFailed : Act → Type 0 → Type 0
IsFailed (act.Fail e) p = p
IsFailed _ p = ⊤

-- a function's act, its state and its log are those of the answer; the object is given back where its execution failed
abbrev pub Executed : Object → Answer → Result (Act × Object) NoMemory → State → Log → Type 0
Executed x a (Ok r) s log = (a ≡ record { act = r.0; state = s; log = log }) × IsFailed r.0 (r.1 ≡ x)
Executed x a (Err e) s log = ⊤

-- the newest frame takes a step of the table
abbrev pub takes_step : List Frame → Bool
takes_step [] = false
takes_step (f ∷ fs) = takes_steps f

-- the step of the newest of these frames
abbrev pub step_in : Table → List ℕ → List Frame → State → Ask
step_in T text [] s = fail Undefined
step_in T text (f ∷ fs) s = T.step f text s

-- the step of the newest frame
abbrev pub step_of : Table → List ℕ → State → Ask
step_of T text s = step_in T text s.frames s

-- the log, once blank paper of the size of these registers is stored, if it is
abbrev pub wiped_in : Bool → ℕ → ℕ → Log → Log
wiped_in false width height log = log
wiped_in true width height log = acted_in log (store loc.Paper (value.Paper (blank width height)))

-- the log after a show was left
abbrev pub left_in : Leaving → Log → Log
left_in l log = wiped_in l.wipes l.regs.state.wide l.regs.state.high log

-- a function leaves the registers of a show that was left, and wipes its paper where that has another size
abbrev pub Leaves : (State → Leaving) → State → Log → Result (Unit {0}) NoMemory → State → Log → Type 0
Leaves l before old (Ok u) s log = (s ≡ record before { regs = (l before).regs }) × (log ≡ left_in (l before) old)
Leaves l before old (Err e) s log = ⊤

-- a turn is counted where one is left
abbrev pub CountsTurn : Bool → State → State → Type 0
CountsTurn true old new = (n : ℕ) × (left old ≡ suc n) × (new ≡ counted old)
CountsTurn false old new = (left old ≡ 0) × (new ≡ old)
