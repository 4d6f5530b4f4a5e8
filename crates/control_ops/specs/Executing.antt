-- Operators that execute their operand (section 8.2 of the language manual).
use Rattle.std.specs.Prelude.{ℕ, Bool, true, if◌then◌else◌, cond, List, [], ◌∷◌, drop, Result, Ok, Err}
use Rattle.ps_names.specs.declared.error_name.ErrorName.{ErrorName}
use Rattle.ps_objects.specs.Access.{run_right}
use Rattle.ps_objects.specs.Operands.{needed, room_for, object_at, boolean_at, procedure_at, runnable_at}
use Rattle.ps_objects.specs.declared.access.Access.{Access}
use Rattle.ps_objects.specs.declared.object.Kind.{Kind}
use Rattle.ps_objects.specs.declared.object.Kind.TheVariants as kind
use Rattle.ps_objects.specs.declared.object.Object.{Object}
use Rattle.ps_objects.specs.declared.objects.Interval.{Interval}
use Rattle.ps_kinds.specs.declared.act.Act.{Act}
use Rattle.ps_kinds.specs.declared.act.Act.TheVariants as act
use Rattle.ps_kinds.specs.declared.frame.Frame.{Frame}
use Rattle.ps_kinds.specs.declared.frame.Frame.TheVariants as frame
use Rattle.ps_kinds.specs.declared.state.State.{State}
use Rattle.ps_memory.specs.Memory.{Memory}
use Rattle.ps_memory.specs.Tree.{Application, done}
use Rattle.ps_operator.specs.Budgets.{frames_room}
use Rattle.ps_operator.specs.Keys.{bytes_of}
use Rattle.ps_operator.specs.Registers.{ops, with_ops, begins, leaves}
use Rattle.ps_operator.specs.Standing.{is_string}
use Rattle.ps_operator.specs.Tree.{Ask, read, look_then, found}
use Rattle.control_ops.specs.Calls.{is_empty, call_of, calls}
use Rattle.control_ops.specs.declared.executing.Start.{Start}
use Rattle.control_ops.specs.declared.executing.Start.TheVariants as start

-- ---- how an object begins where it is executed

-- the beginning, where the right is given
abbrev pub allowed : Result (Unit {0}) ErrorName → Start → Result Start ErrorName
allowed (Ok u) b = Ok b
allowed (Err e) b = Err e

-- an executable string is scanned, all else is called; a procedure and a string have to be runnable
abbrev pub start_kind : Access → Kind → Result Start ErrorName
start_kind a (kind.Array part packed) = allowed (run_right a) start.Called
start_kind a (kind.Str part) = allowed (run_right a) (start.Scanned part)
start_kind a _ = Ok start.Called

-- a literal object is pushed
abbrev pub start_of : Object → Result Start ErrorName
start_of x = if x.exec then start_kind x.access x.kind else Ok start.Pushed

-- the string that is scanned stands
abbrev pub is_start : Memory → Start → Bool
is_start M (start.Scanned part) = is_string M part
is_start M start.Pushed = true
is_start M start.Called = true

-- the frame of a string, which is looked at whole
abbrev pub text_of : Object → Interval → Application Frame
text_of x part = look_then (bytes_of part) (λ bs. found (frame.Text x bs 0))

-- ---- exec

-- the operand is taken away and begins; a literal one is pushed again, and then has to have room
abbrev pub exec_start : State → Object → Start → Ask
exec_start s x start.Pushed = read (room_for 0 (ops s)) (λ _. leaves s (ops s))
exec_start s x start.Called = calls s (drop 1 (ops s)) x
exec_start s x (start.Scanned part) =
    read (frames_room 1 s.frames) (λ _.
    look_then (text_of x part) (λ f.
    done [] (begins (with_ops s (drop 1 (ops s))) f)))

-- x exec: the operand is executed
abbrev pub exec : State → Ask
exec s =
    read (needed 1 (ops s)) (λ _.
    read (object_at 0 (ops s)) (λ x.
    read (start_of x) (λ b.
    exec_start s x b)))

-- ---- if and ifelse

-- b p if: the procedure runs where the truth value is true
abbrev pub if_ : State → Ask
if_ s =
    read (needed 2 (ops s)) (λ _.
    read (procedure_at 0 (ops s)) (λ _.
    read (boolean_at 1 (ops s)) (λ b.
    read (runnable_at 0 (ops s)) (λ _.
    read (object_at 0 (ops s)) (λ x.
    if b then calls s (drop 2 (ops s)) x else leaves s (drop 2 (ops s)))))))

-- how deep the procedure lies that is chosen
abbrev pub chosen : Bool → ℕ
chosen b = cond b 1 0

-- b p p ifelse: the lower procedure runs where the truth value is true, else the upper one
abbrev pub ifelse : State → Ask
ifelse s =
    read (needed 3 (ops s)) (λ _.
    read (procedure_at 0 (ops s)) (λ _.
    read (procedure_at 1 (ops s)) (λ _.
    read (boolean_at 2 (ops s)) (λ b.
    read (runnable_at 0 (ops s)) (λ _.
    read (runnable_at 1 (ops s)) (λ _.
    read (object_at (chosen b) (ops s)) (λ x.
    calls s (drop 3 (ops s)) x)))))))

-- ---- stopped

-- ends over the frame of `stopped`, with these operands and perhaps one frame more
abbrev pub stands : State → List Object → Act → Ask
stands s xs a = done [] (record { state = with_ops s xs; frames = frame.Stopped ∷ []; act = a })

-- the frames of `stopped` and of what it calls
abbrev pub stopped_frames : Object → ℕ
stopped_frames x = if is_empty x.kind then 1 else 2

-- the operand begins as that of `exec`, over a frame of its own
abbrev pub stopped_start : State → Object → Start → Ask
stopped_start s x start.Pushed =
    read (room_for 0 (ops s)) (λ _.
    read (frames_room 1 s.frames) (λ _.
    stands s (ops s) act.Done))
stopped_start s x start.Called =
    read (frames_room (stopped_frames x) s.frames) (λ _.
    stands s (drop 1 (ops s)) (call_of x))
stopped_start s x (start.Scanned part) =
    read (frames_room 2 s.frames) (λ _.
    look_then (text_of x part) (λ f.
    stands s (drop 1 (ops s)) (act.Body f)))

-- x stopped b: the operand is executed, and then is told whether it was stopped
abbrev pub stopped : State → Ask
stopped s =
    read (needed 1 (ops s)) (λ _.
    read (object_at 0 (ops s)) (λ x.
    read (start_of x) (λ b.
    stopped_start s x b)))
