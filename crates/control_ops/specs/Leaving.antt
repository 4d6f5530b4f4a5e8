-- Operators that leave what runs (section 8.2 of the language manual).
use Rattle.std.specs.Prelude.{Bool, true, false, if◌then◌else◌, List, [], ◌∷◌, Result, Ok, Err}
use Rattle.ps_names.specs.declared.error_name.ErrorName.{ErrorName}
use Rattle.ps_names.specs.declared.error_name.ErrorName.TheVariants.{InvalidExit}
use Rattle.ps_objects.specs.Operands.{room_for}
use Rattle.ps_kinds.specs.declared.act.Act.{Act}
use Rattle.ps_kinds.specs.declared.act.Act.TheVariants as act
use Rattle.ps_kinds.specs.declared.frame.Frame.{Frame}
use Rattle.ps_kinds.specs.declared.frame.Frame.TheVariants as frame
use Rattle.ps_kinds.specs.declared.state.State.{State}
use Rattle.ps_memory.specs.Tree.{done}
use Rattle.ps_operator.specs.Registers.{ops, any_of}
use Rattle.ps_operator.specs.Tree.{Ask, read}
use Rattle.ps_execution.specs.Frames.{Way, loop, barrier, passed, way, is_loop}

-- ends by this act
abbrev pub ends_by : State → Act → Ask
ends_by s a = done [] (record { state = s; frames = []; act = a })

-- a frame that no exit passes
abbrev pub is_barrier : Way → Bool
is_barrier loop = false
is_barrier barrier = true
is_barrier passed = false

-- an exit comes to a loop before it comes to a frame that it may not pass, or to the section's top
abbrev pub exit_right : List Frame → Result (Unit {0}) ErrorName
exit_right [] = Err InvalidExit
exit_right (f ∷ fs) =
    if is_loop (way f) then Ok tt
    else if is_barrier (way f) then Err InvalidExit else exit_right fs

-- exit: leaves the innermost loop
abbrev pub exit : State → Ask
exit s = read (exit_right s.frames) (λ _. ends_by s act.Exit)

-- the frame of `stopped`
abbrev pub is_stopped : Frame → Bool
is_stopped frame.Stopped = true
is_stopped _ = false

-- a stop pushes true where a `stopped` takes it
abbrev pub stop_room : State → Result (Unit {0}) ErrorName
stop_room s = if any_of is_stopped s.frames then room_for 1 (ops s) else Ok tt

-- stop: leaves all that runs, up to the innermost `stopped`
abbrev pub stop : State → Ask
stop s = read (stop_room s) (λ _. ends_by s act.Stop)

-- quit: ends the section, and the job with it
abbrev pub quit : State → Ask
quit s = ends_by s act.Quit
