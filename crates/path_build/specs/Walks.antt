-- Walks over a path (section 8.2 of the language manual). Each step is an application of its own, which a failure leaves as it was, its
-- frame with it.
use Rattle.std.specs.Prelude.{◌≡◌, ℕ, zero, suc, ◌+◌, Bool, true, false, List, [], ◌∷◌, drop, slice_get, Option, Some, None, Result, Ok, Err, ⊤}
use Rattle.ps_names.specs.declared.error_name.ErrorName.{ErrorName}
use Rattle.ps_names.specs.declared.error_name.ErrorName.TheVariants.{Undefined}
use Rattle.ps_shapes.specs.declared.numbers.Matrix.{Matrix}
use Rattle.ps_shapes.specs.declared.path.Segment.{Segment}
use Rattle.ps_shapes.specs.declared.path.Segment.TheVariants.{Move, Line, Curve, Close}
use Rattle.ps_objects.specs.Operands.{needed, room_for, object_at, procedure_at, runnable_at}
use Rattle.ps_objects.specs.declared.object.Object.{Object}
use Rattle.ps_objects.specs.declared.refusal.Refusal.{Refusal}
use Rattle.ps_objects.specs.declared.refusal.Refusal.TheVariants as refusal
use Rattle.ps_kinds.specs.declared.act.Act.{Act}
use Rattle.ps_kinds.specs.declared.frame.Frame.{Frame}
use Rattle.ps_kinds.specs.declared.frame.Frame.TheVariants as frame
use Rattle.ps_kinds.specs.declared.frame.PathWalk.{PathWalk}
use Rattle.ps_kinds.specs.declared.state.State.{State}
use Rattle.ps_memory.specs.Tree.{done, fail}
use Rattle.ps_operator.specs.Budgets.{frames_room}
use Rattle.ps_operator.specs.Registers.{ops, with_ops, begins, leaves}
use Rattle.ps_operator.specs.Tree.{Ask, read}
use Rattle.path_build.specs.declared.walking.Told.{Told}
use Rattle.path_build.specs.declared.walking.Told.TheVariants.{Nothing, One, Three}
use Rattle.path_build.specs.Points.{going_on, way_back, told_by, user_point, with_point}
use Rattle.path_build.specs.Building.{path_of, ctm}
use Rattle.path_build.specs.Calls.{call_room, call_of}

-- ---- pathforall

-- a walk over the path as it stands, with the newest four operands as its procedures
abbrev pub walk_of : List Segment → Object → Object → Object → Object → PathWalk
walk_of path m l c z = record { path = path; at = 0; move_to = m; line_to = l; curve_to = c; close_path = z }

-- the newest four operands are procedures, and may be run
abbrev pub are_bodies : List Object → Result (Unit {0}) ErrorName
are_bodies xs =
    going_on (procedure_at 0 xs) (λ _.
    going_on (procedure_at 1 xs) (λ _.
    going_on (procedure_at 2 xs) (λ _.
    going_on (procedure_at 3 xs) (λ _.
    going_on (runnable_at 0 xs) (λ _.
    going_on (runnable_at 1 xs) (λ _.
    going_on (runnable_at 2 xs) (λ _. runnable_at 3 xs)))))))

-- p p p p pathforall: a walk begins
abbrev pub pathforall : State → Ask
pathforall s =
    read (needed 4 (ops s)) (λ _.
    read (are_bodies (ops s)) (λ _.
    read (object_at 0 (ops s)) (λ z.
    read (object_at 1 (ops s)) (λ c.
    read (object_at 2 (ops s)) (λ l.
    read (object_at 3 (ops s)) (λ m.
    read (frames_room 1 s.frames) (λ _.
    done [] (begins (with_ops s (drop 4 (ops s))) (frame.Walk (walk_of (path_of s) m l c z))))))))))

-- ---- a step

-- the points of a segment in user space, as the matrix stands now
abbrev pub told : Matrix → Segment → Result Told ErrorName
told m (Move p) = going_on (user_point m p) (λ a. Ok (One a))
told m (Line p) = going_on (user_point m p) (λ a. Ok (One a))
told m (Curve p q r) =
    going_on (way_back m) (λ back.
    going_on (told_by back p) (λ a.
    going_on (told_by back q) (λ b.
    going_on (told_by back r) (λ c. Ok (Three a b c)))))
told m Close = Ok Nothing

-- room for their numbers; none is needed for no numbers
abbrev pub told_room : Told → List Object → Result (Unit {0}) ErrorName
told_room Nothing xs = Ok tt
told_room (One a) xs = room_for 2 xs
told_room (Three a b c) xs = room_for 6 xs

-- the points on the operands, in their order
abbrev pub with_told : Told → List Object → List Object
with_told Nothing xs = xs
with_told (One a) xs = with_point a xs
with_told (Three a b c) xs = with_point c (with_point b (with_point a xs))

-- the procedure for a segment
abbrev pub body_for : PathWalk → Segment → Object
body_for w (Move p) = w.move_to
body_for w (Line p) = w.line_to
body_for w (Curve p q r) = w.curve_to
body_for w Close = w.close_path

-- the points to be pushed, where there is room for their numbers and then for the frame of the procedure
abbrev pub ready : Segment → Object → State → Result Told ErrorName
ready segment body s =
    going_on (told (ctm s) segment) (λ t.
    going_on (told_room t (ops s)) (λ _.
    going_on (call_room body s.frames) (λ _. Ok t)))

-- what is left of a walk behind a segment
abbrev pub past : PathWalk → PathWalk
past w = record w { at = w.at + 1 }

-- a step of a walk: the procedure for the next segment is called, with its points on the operands; behind the last the frame goes
abbrev pub walk_step : PathWalk → State → Option Segment → Ask
walk_step w s None = leaves s (ops s)
walk_step w s (Some segment) =
    read (ready segment (body_for w segment) s) (λ t.
    done [] (record { state = with_ops s (with_told t (ops s)); frames = frame.Walk (past w) ∷ []; act = call_of (body_for w segment) }))

-- ---- frames

-- the frames of this crate
abbrev pub walks : Frame → Bool
walks (frame.Walk w) = true
walks _ = false

-- the step of a frame, which stands among those of the state
abbrev pub step : Frame → State → Ask
step (frame.Walk w) s = walk_step w s (slice_get w.path w.at)
step _ s = fail Undefined

-- the newest of these is one of this crate
abbrev pub walks_in : List Frame → Bool
walks_in [] = false
walks_in (f ∷ fs) = walks f

-- the step of the newest of these
abbrev pub step_in : List Frame → State → Ask
step_in [] s = fail Undefined
step_in (f ∷ fs) s = step f s

-- the step of the newest frame
abbrev pub newest_step : State → Ask
newest_step s = step_in s.frames s

-- a frame on those of the state
abbrev pub with_frame : Frame → State → State
with_frame f s = record s { frames = f ∷ s.frames }

-- ---- what the code of a step asks

-- room for the procedure's frame on these and a frame that was taken off, for which any stands
abbrev pub room_above : Object → List Frame → Result (Unit {0}) ErrorName
room_above body fs = call_room body (frame.Stopped ∷ fs)

-- the points to be pushed, whatever frame stands on those of the state
abbrev pub IsReady : Segment → Object → State → Result Told ErrorName → Type 0
IsReady segment body s r = (f : Frame) → r ≡ ready segment body (with_frame f s)

-- a step fails so, with its frame as it was
abbrev pub PutsBack : Frame → ErrorName → State → Result Act Refusal → State → Type 0
PutsBack f e before (Ok a) s = ⊥
PutsBack f e before (Err (refusal.Error x)) s = (x ≡ e) × (s ≡ with_frame f before)
PutsBack f e before (Err refusal.NoMemory) s = ⊤
