-- Executing an object.
use Rattle.std.specs.Prelude.{◌≡◌, ℕ, Bool, true, false, [], Option, Some, None}
use Rattle.ps_names.specs.declared.error_name.ErrorName.TheVariants.{Undefined}
use Rattle.ps_objects.specs.declared.access.Access.{Access}
use Rattle.ps_objects.specs.declared.object.Kind.{Kind}
use Rattle.ps_objects.specs.declared.object.Kind.TheVariants as kind
use Rattle.ps_objects.specs.declared.object.Object.{Object}
use Rattle.ps_objects.specs.declared.key.Key.{Key}
use Rattle.ps_objects.specs.declared.key.Key.TheVariants as key
use Rattle.ps_objects.specs.declared.objects.Interval.{Interval}
use Rattle.ps_kinds.specs.declared.act.Act.{Act}
use Rattle.ps_kinds.specs.declared.act.Act.TheVariants as act
use Rattle.ps_kinds.specs.declared.state.State.{State}
use Rattle.ps_memory.specs.Tree.{Tree, fail}
use Rattle.ps_meaning.specs.Answer.{Log, Answer, answer}
use Rattle.ps_execution.specs.Machine.{Move, move_turn}
use Rattle.ps_execution.specs.Objects.{searches, runs_value, executes}
use Rattle.ps_execution.specs.Reached.{Reached, settled}
use Rattle.ps_execution.specs.Table.{Program}
use Rattle.ps_steps.specs.declared.executing.Executable.{Executable}
use Rattle.ps_steps.specs.declared.executing.Executable.TheVariants as called

-- ---- the kinds of objects that are executed in a way of their own

-- an operator
abbrev pub operator_in : Kind → Option ℕ
operator_in (kind.Operator n) = Some n
operator_in _ = None

-- the bytes of a string
abbrev pub string_in : Kind → Option Interval
string_in (kind.Str part) = Some part
string_in _ = None

-- the length of an array
abbrev pub procedure_in : Kind → Option ℕ
procedure_in (kind.Array part packed) = Some part.len
procedure_in _ = None

-- an array
abbrev pub is_procedure : Kind → Bool
is_procedure (kind.Array part packed) = true
is_procedure _ = false

-- null
abbrev pub is_null : Kind → Bool
is_null kind.Null = true
is_null _ = false

-- a name as a key
abbrev pub key_in : Kind → Option Key
key_in (kind.Name n) = Some (key.Name n)
key_in _ = None

-- ---- names

-- the name that a key is
abbrev pub name_kind : Key → Kind
name_kind (key.Name n) = kind.Name n
name_kind _ = kind.Null

-- the executable name that a key is
abbrev pub name_object : Key → Access → Object
name_object k a = record { kind = name_kind k; exec = true; access = a }

-- an executable object that was met is a name, a procedure, or is executed as if a name had led to it
abbrev pub Calls : Object → Executable → Type 0
Calls x (called.Name k a) = (x ≡ name_object k a) × (key_in x.kind ≡ Some k)
Calls x (called.Procedure y) = (y ≡ x) × (x.exec ≡ true) × (is_procedure x.kind ≡ true)
Calls x (called.Other y) = (y ≡ x) × (x.exec ≡ true) × (is_procedure x.kind ≡ false) × (key_in x.kind ≡ None)

-- what comes of the value to which a name leads
abbrev pub name_answer : Program → Key → State → Log → Answer
name_answer P k s log = answer (searches s.regs.dicts k (λ y. runs_value P y s) (fail Undefined)) s log

-- ---- what executing leads to

-- an object in a turn of its own
abbrev pub object_turn : Program → Object → State → Tree Move
object_turn P x s = move_turn P x (executes P x) s

-- what an object that was met answers
abbrev pub met_answer : Program → Object → State → Log → Answer
met_answer P x s log = answer (executes P x s) s log

-- what an answer leads to, after this object was executed
abbrev pub led : Program → Object → Answer → Reached Move
led P x a = settled P x a.act a.state a.log []

-- an act is Done
abbrev pub is_done : Act → Bool
is_done act.Done = true
is_done (act.Body f) = false
is_done (act.Fail e) = false
is_done act.Exit = false
is_done act.Stop = false
is_done act.Quit = false
is_done (act.Say t) = false
is_done (act.Show wipe) = false
is_done (act.Outer q) = false
