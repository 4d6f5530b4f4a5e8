-- What executing an object does.
use Rattle.std.specs.Prelude.{ℕ, zero, suc, Bool, true, false, not, cond, ◌&&◌, ◌==◌, nat_lt, List, [], ◌∷◌, drop, length}
use Rattle.ps_objects.specs.declared.objects.Interval.{Interval}
use Rattle.ps_objects.specs.Access.{run_right}
use Rattle.ps_names.specs.ErrorName.{bytes_of}
use Rattle.ps_names.specs.Op.{default_entry}
use Rattle.ps_objects.specs.Operands.{room_for}
use Rattle.ps_objects.specs.declared.cell.Cell.{Cell}
use Rattle.ps_names.specs.declared.error_name.ErrorName.{ErrorName}
use Rattle.ps_names.specs.declared.error_name.ErrorName.TheVariants.{Undefined}
use Rattle.ps_objects.specs.declared.key.Key.{Key}
use Rattle.ps_objects.specs.declared.key.Key.TheVariants as key
use Rattle.ps_objects.specs.declared.object.Object.{Object}
use Rattle.ps_objects.specs.declared.object.Kind.{Kind}
use Rattle.ps_objects.specs.declared.object.Kind.TheVariants as kind
use Rattle.ps_objects.specs.declared.place.Loc.{Loc}
use Rattle.ps_objects.specs.declared.place.Loc.TheVariants as loc
use Rattle.ps_objects.specs.declared.place.Value.{Value}
use Rattle.ps_objects.specs.declared.place.Value.TheVariants as value
use Rattle.ps_objects.specs.declared.objects.TheConstants.{OPERAND_LIMIT}
use Rattle.ps_kinds.specs.declared.frame.TheConstants.{FRAME_LIMIT}
use Rattle.ps_kinds.specs.Frames.{frames_room}
use Rattle.ps_kinds.specs.declared.act.Act.TheVariants as act
use Rattle.ps_kinds.specs.declared.frame.Frame.{Frame}
use Rattle.ps_kinds.specs.declared.frame.Frame.TheVariants as frame
use Rattle.ps_kinds.specs.declared.state.State.{State}
use Rattle.ps_memory.specs.Memory.{null_object}
use Rattle.ps_memory.specs.Tree.{Application, done, fail, look}
use Rattle.ps_meaning.specs.Answer.{read, Effect}
use Rattle.ps_meaning.specs.Start.{operator, error_dict}
use Rattle.ps_execution.specs.Table.{Program}

-- ---- effects

-- the state with these operands
abbrev pub with_operands : List Object → State → State
with_operands xs s = record s { regs = record s.regs { operands = xs } }

-- the state with one more operand
abbrev pub pushed : Object → State → State
pushed x s = with_operands (x ∷ s.regs.operands) s

-- nothing else is done
abbrev pub goes_on : State → Application Effect
goes_on s = done [] (record { state = s; frames = []; act = act.Done })

-- an object is pushed, where there is room: stackoverflow
abbrev pub pushes : Object → State → Application Effect
pushes x s = read (room_for 1 s.regs.operands) (λ _. goes_on (pushed x s))

-- a frame begins, where there is room: execstackoverflow
abbrev pub begins : Frame → State → Application Effect
begins f s = read (frames_room 1 s.frames) (λ _. done [] (record { state = s; frames = []; act = act.Body f }))

-- ---- procedures and strings

-- the byte of a value
abbrev pub byte_in : Value → ℕ
byte_in (value.Byte n) = n
byte_in _ = 0

-- the bytes of a string from a place on, looked at from the first
abbrev pub looks_at_bytes : {A : Type 0} → Cell → ℕ → ℕ → (List ℕ → Application A) → Application A
looks_at_bytes c i zero k = k []
looks_at_bytes c i (suc n) k = look (loc.Byte c i) (λ v. looks_at_bytes c (suc i) n (λ bs. k (byte_in v ∷ bs)))

-- an empty procedure begins no frame
abbrev pub runs_procedure : Object → ℕ → State → Application Effect
runs_procedure x len s = read (run_right x.access) (λ _. cond (len == 0) (goes_on s) (begins (frame.Proc x 0) s))

-- a string is looked at whole as its frame begins
abbrev pub runs_string : Object → Interval → State → Application Effect
runs_string x part s =
    read (run_right x.access) (λ _. read (frames_room 1 s.frames) (λ _.
    looks_at_bytes part.cell part.start part.len (λ bs. done [] (record { state = s; frames = []; act = act.Body (frame.Text x bs 0) }))))

-- what an operator as `exec` does with its operand: a name, an operator and the like is the one item of a frame of its own
abbrev pub begins_kind : Object → Kind → State → Application Effect
begins_kind x (kind.Array part packed) s = runs_procedure x part.len s
begins_kind x (kind.Str part) s = runs_string x part s
begins_kind x _ s = begins (frame.Proc x 0) s

-- an executable procedure or string begins; any other object is pushed
abbrev pub begins_object : Object → State → Application Effect
begins_object x s = cond x.exec (begins_kind x x.kind s) (pushes x s)

-- ---- execution

-- an executable object to which a name led
abbrev pub runs_kind : Program → Object → Kind → State → Application Effect
runs_kind P x (kind.Array part packed) s = runs_procedure x part.len s
runs_kind P x (kind.Str part) s = runs_string x part s
runs_kind P x kind.Null s = goes_on s
runs_kind P x _ s = pushes x s

-- an object to which a name led, or an error's entry. An operator runs whatever its attribute.
abbrev pub value_kind : Program → Object → Kind → State → Application Effect
value_kind P x (kind.Operator n) s = P.table.run n P.text s
value_kind P x k s = cond x.exec (runs_kind P x k s) (pushes x s)

-- an object to which a name led is run where it is executable, and else pushed
abbrev pub runs_value : Program → Object → State → Application Effect
runs_value P x s = value_kind P x x.kind s

-- goes on with the object of a value, or without one
abbrev pub found_in : {A : Type 0} → Value → (Object → Application A) → Application A → Application A
found_in (value.Object x) found missing = found x
found_in _ found missing = missing

-- the value of a key in the first dictionary from the top that has it
abbrev pub searches : {A : Type 0} → List Cell → Key → (Object → Application A) → Application A → Application A
searches [] k found missing = missing
searches (d ∷ ds) k found missing = look (loc.Entry d k) (λ v. found_in v found (searches ds k found missing))

-- an executable object met as a token or an item
abbrev pub met_kind : Program → Object → Kind → State → Application Effect
met_kind P x (kind.Name n) s = searches s.regs.dicts (key.Name n) (λ y. runs_value P y s) (fail Undefined)
met_kind P x (kind.Operator n) s = P.table.run n P.text s
met_kind P x (kind.Str part) s = runs_string x part s
met_kind P x kind.Null s = goes_on s
met_kind P x _ s = pushes x s

-- an object that the text or a procedure has is executed where it is executable, and else pushed
abbrev pub executes : Program → Object → State → Application Effect
executes P x s = cond x.exec (met_kind P x x.kind s) (pushes x s)

-- ---- errors

-- the operands with the executed object of an error, which may be the 5,001st, and takes the place of the top one above that
abbrev pub with_failed : Object → List Object → List Object
with_failed x xs = cond (nat_lt OPERAND_LIMIT (length xs)) (x ∷ drop 1 xs) (x ∷ xs)

-- the place of an error in the dictionary of errors
abbrev pub error_entry : ErrorName → Loc
error_entry e = loc.Entry error_dict (key.Name (bytes_of e))

-- a procedure or a string
abbrev pub is_body_kind : Kind → Bool
is_body_kind (kind.Array part packed) = true
is_body_kind (kind.Str part) = true
is_body_kind _ = false

-- a procedure or a string that would have no room for its frame, empty or not, gives way to the default entry
abbrev pub entry_in : ErrorName → ℕ → Value → Object
entry_in e frames (value.Object x) = cond (x.exec && is_body_kind x.kind && not (nat_lt frames FRAME_LIMIT)) (operator (default_entry e)) x
entry_in e frames _ = operator (default_entry e)

-- the object of a value
abbrev pub item_in : Value → Object
item_in (value.Object x) = x
item_in _ = null_object
