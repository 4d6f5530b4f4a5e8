-- Steps of loops, walks and `stopped`: each is an application of its own, which a failure leaves as it was, its frame with it.
use Rattle.std.specs.Prelude.{◌≡◌, ℕ, ℤ, zero, suc, pos, negsuc, ◌+◌, Bool, true, false, ◌&&◌, nat_lt, int_le, int_div, if◌then◌else◌, List, [], ◌∷◌, slice_get, Option, Some, None, Result, Ok, Err, ⊤}
use Rattle.ps_names.specs.declared.error_name.ErrorName.{ErrorName}
use Rattle.ps_names.specs.declared.error_name.ErrorName.TheVariants.{Undefined}
use Rattle.ps_shapes.specs.declared.numbers.Real.{Real}
use Rattle.ps_fixed.specs.Arithmetic.{sum_of}
use Rattle.ps_objects.specs.Key.{told_key}
use Rattle.ps_objects.specs.Operands.{room_for}
use Rattle.ps_objects.specs.declared.object.Kind.{Kind}
use Rattle.ps_objects.specs.declared.object.Kind.TheVariants as kind
use Rattle.ps_objects.specs.declared.object.Object.{Object}
use Rattle.ps_objects.specs.declared.objects.Interval.{Interval}
use Rattle.ps_objects.specs.declared.refusal.Refusal.{Refusal}
use Rattle.ps_objects.specs.declared.refusal.Refusal.TheVariants as refusal
use Rattle.ps_kinds.specs.declared.act.Act.{Act}
use Rattle.ps_kinds.specs.declared.frame.Frame.{Frame}
use Rattle.ps_kinds.specs.declared.frame.Frame.TheVariants as frame
use Rattle.ps_kinds.specs.declared.frame.Pair.{Pair}
use Rattle.ps_kinds.specs.declared.state.State.{State}
use Rattle.ps_memory.specs.Tree.{done, fail}
use Rattle.ps_operator.specs.Looks.{look_item, look_byte}
use Rattle.ps_operator.specs.Registers.{ops, with_ops, literal, leaves}
use Rattle.ps_operator.specs.Tree.{Ask, read}
use Rattle.ps_execution.specs.Frames.{is_past}
use Rattle.control_ops.specs.Calls.{call_room, call_of}

-- ---- rounds

-- the loop is over: its frame goes
abbrev pub over : State → Ask
over s = leaves s (ops s)

-- room for n more operands, of which there is one at least, then for the frame of the body
abbrev pub round_room : ℕ → Object → State → Result (Unit {0}) ErrorName
round_room n body s = elim (room_for n (ops s)) [ Err e ↦ Err e | Ok u ↦ call_room body s.frames ]

-- the body is called with these operands, over what is left of the loop
abbrev pub round : State → List Object → Frame → Object → Ask
round s xs rest body = done [] (record { state = with_ops s xs; frames = rest ∷ []; act = call_of body })

-- ---- for

-- -2^31 ≤ z < 2^31
abbrev pub fits_i32 : ℤ → Bool
fits_i32 z = int_le (negsuc 2147483647) z && int_le z (pos 2147483647)

-- the variable of a loop over integers is an integer, where it has 32 bits; else it is a real
abbrev pub variable : Bool → Real → Kind
variable whole v =
    if whole && fits_i32 (int_div v.count (pos 16777216))
    then kind.Integer (int_div v.count (pos 16777216)) else kind.Real v

-- the next variable, unless it leaves the reals
abbrev pub next_value : Real → Real → Option Real
next_value v increment = elim (sum_of v increment) [ Ok r ↦ Some r | Err u ↦ None ]

-- a step of `for`
abbrev pub for_step : Object → Option Real → Real → Real → Bool → State → Ask
for_step body None increment limit whole s = over s
for_step body (Some v) increment limit whole s =
    if is_past (Some v) increment limit then over s
    else read (round_room 1 body s) (λ _.
    round s (literal (variable whole v) ∷ ops s)
    (frame.For body (next_value v increment) increment limit whole) body)

-- ---- repeat and loop

-- a step of `repeat`
abbrev pub repeat_step : Object → ℕ → State → Ask
repeat_step body zero s = over s
repeat_step body (suc n) s =
    read (call_room body s.frames) (λ _.
    round s (ops s) (frame.Repeat body n) body)

-- a step of `loop`
abbrev pub loop_step : Object → State → Ask
loop_step body s =
    read (call_room body s.frames) (λ _.
    round s (ops s) (frame.Loop body) body)

-- ---- forall

-- the items of an array
abbrev pub items_in : Kind → Option Interval
items_in (kind.Array part packed) = Some part
items_in _ = None

-- the bytes of a string
abbrev pub bytes_in : Kind → Option Interval
bytes_in (kind.Str part) = Some part
bytes_in _ = None

-- a place of an interval, where one is left
abbrev pub place_left : Option Interval → ℕ → Option Interval
place_left None at = None
place_left (Some part) at = if nat_lt at part.len then Some part else None

-- a step over an array: the next item, as it stands now
abbrev pub item_round : Object → ℕ → Object → State → Option Interval → Ask
item_round array at body s None = over s
item_round array at body s (Some part) =
    read (round_room 1 body s) (λ _.
    look_item part at (λ x.
    round s (x ∷ ops s) (frame.Items array (at + 1) body) body))

-- a step over a string: the next byte, as it stands now
abbrev pub byte_round : Object → ℕ → Object → State → Option Interval → Ask
byte_round string at body s None = over s
byte_round string at body s (Some part) =
    read (round_room 1 body s) (λ _.
    look_byte part at (λ b.
    round s (literal (kind.Integer (pos b)) ∷ ops s) (frame.Bytes string (at + 1) body) body))

-- a step over the pairs that stood at the start: the next key, and its value above it
abbrev pub pair_round : List Pair → ℕ → Object → State → Option Pair → Ask
pair_round pairs at body s None = over s
pair_round pairs at body s (Some p) =
    read (round_room 2 body s) (λ _.
    round s (p.value ∷ told_key p.key ∷ ops s) (frame.Pairs pairs (at + 1) body) body)

-- ---- stopped

-- what ran under `stopped` has come to its end
abbrev pub stopped_step : State → Ask
stopped_step s =
    read (room_for 1 (ops s)) (λ _.
    leaves s (literal (kind.Boolean false) ∷ ops s))

-- ---- all of them

-- the frames of this crate
abbrev pub walks : Frame → Bool
walks (frame.For body next increment limit whole) = true
walks (frame.Repeat body n) = true
walks (frame.Loop body) = true
walks (frame.Items array at body) = true
walks (frame.Bytes string at body) = true
walks (frame.Pairs pairs at body) = true
walks frame.Stopped = true
walks _ = false

-- the step of a frame, which stands among those of the state
abbrev pub step : Frame → State → Ask
step (frame.For body next increment limit whole) s = for_step body next increment limit whole s
step (frame.Repeat body n) s = repeat_step body n s
step (frame.Loop body) s = loop_step body s
step (frame.Items array at body) s = item_round array at body s (place_left (items_in array.kind) at)
step (frame.Bytes string at body) s = byte_round string at body s (place_left (bytes_in string.kind) at)
step (frame.Pairs pairs at body) s = pair_round pairs at body s (slice_get pairs at)
step frame.Stopped s = stopped_step s
step _ s = fail Undefined

-- ---- the newest frame

-- the newest of these is one of this crate
abbrev pub walks_in : List Frame → Bool
walks_in [] = false
walks_in (f ∷ fs) = walks f

-- the step of the newest of these
abbrev pub step_in : List Frame → State → Ask
step_in [] s = fail Undefined
step_in (f ∷ fs) s = step f s

-- the step of the newest frame
abbrev pub newest_step : State → Ask
newest_step s = step_in s.frames s

-- a frame on those of the state
abbrev pub with_frame : Frame → State → State
with_frame f s = record s { frames = f ∷ s.frames }

-- ---- what the code of a step asks

-- room for the body's frame on these and a frame that was taken off, for which any stands
abbrev pub room_above : Object → List Frame → Result (Unit {0}) ErrorName
room_above body fs = call_room body (frame.Stopped ∷ fs)

-- there is room for a round, whatever frame stands on those of the state
abbrev pub HasRoom : ℕ → Object → State → Result (Unit {0}) ErrorName → Type 0
HasRoom n body s r = (f : Frame) → r ≡ round_room n body (with_frame f s)

-- a step fails so, with its frame as it was
abbrev pub PutsBack : Frame → ErrorName → State → Result Act Refusal → State → Type 0
PutsBack f e before (Ok a) s = ⊥
PutsBack f e before (Err (refusal.Error x)) s = (x ≡ e) × (s ≡ with_frame f before)
PutsBack f e before (Err refusal.NoMemory) s = ⊤
