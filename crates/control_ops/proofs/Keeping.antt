-- Each operator keeps a state that fits: its tree again, with what fits beside each look and end.
use Rattle.std.proofs.Common.{◌≡◌, ℕ, Bool, true, false, cond, List, [], ◌∷◌, drop, Ok}
use Rattle.std.specs.List.{AllByRecursion}
use Rattle.ps_objects.specs.Access.{read_right, run_right}
use Rattle.ps_objects.specs.Operands.{needed, room_for, object_at, integer_at, boolean_at, number_at, procedure_at, runnable_at}
use Rattle.ps_objects.specs.declared.object.Object.{Object}
use Rattle.ps_kinds.specs.declared.act.Act.{Act}
use Rattle.ps_kinds.specs.declared.act.Act.TheVariants as act
use Rattle.ps_kinds.specs.declared.frame.Frame.{Frame}
use Rattle.ps_kinds.specs.declared.frame.Frame.TheVariants as frame
use Rattle.ps_kinds.specs.declared.state.State.{State}
use Rattle.ps_meaning.specs.Fits.{FitsObject}
use Rattle.ps_meaning.specs.Ready.{FitsPair, FitsFrame, FitsAct, Fits}
use Rattle.ps_meaning.specs.Sound.{World}
use Rattle.ps_operator.specs.Budgets.{frames_room}
use Rattle.ps_operator.specs.Lawful.{Keeps, IsLawful}
use Rattle.ps_operator.specs.Numbers.{natural_of}
use Rattle.ps_operator.specs.Operators.{AreLawful}
use Rattle.ps_operator.specs.Registers.{ops, leaves}
use Rattle.ps_operator.proofs.Fitting.{Fit, drop_fits, object_fits}
use Rattle.ps_operator.proofs.Lawful.{read_keeps, then_keeps, access_keeps, leaves_keeps, begins_keeps, frames_keeps}
use Rattle.ps_operator.proofs.Running.{◌▹◌, all_lawful}
use Rattle.ps_operator.proofs.Seeking.{seeking_keeps}
use Rattle.control_ops.specs.Calls.{call_room, call_of, calls}
use Rattle.control_ops.specs.Executing.{start_of, text_of, exec_start, exec, if_, chosen, ifelse, stands, stopped_frames, stopped_start, stopped}
use Rattle.control_ops.specs.Leaving.{ends_by, exit_right, exit, stop_room, stop, quit}
use Rattle.control_ops.specs.Loops.{begins_loop, repeat, loop_, for_frame, for_, walked_of, pairs_from, walk_over, forall_}
use Rattle.control_ops.specs.Operators.{operators, run}
use Rattle.control_ops.specs.declared.executing.Start.{Start}
use Rattle.control_ops.specs.declared.executing.Start.TheVariants as start
use Rattle.control_ops.specs.declared.walking.Walked.{Walked}
use Rattle.control_ops.specs.declared.walking.Walked.TheVariants as walked
use Rattle.control_ops.proofs.Fitted.{call_fits, scanned_fits, text_looks, walked_fits, keys_keeps, pairs_seek}

-- ---- operators that execute their operand

module _ (text : List ℕ) (s : State) (W : World) (f : Fits text W s) where
  calls_keeps : (xs : List Object) (x : Object) → Fit W.shapes xs → FitsObject W.shapes x → Keeps text 4 s.frames (calls s xs x) s W
  calls_keeps xs x h g = read_keeps (call_room x s.frames) (λ _ _. frames_keeps f xs [] (call_of x) h tt (call_fits W.shapes x g))

  rest_fits : (n : ℕ) → Fit W.shapes (drop n (ops s))
  rest_fits n = drop_fits W.shapes n (ops s) f.state.registers.operands

  exec_start_keeps : (x : Object) (b : Start) → FitsObject W.shapes x → start_of x ≡ Ok b → Keeps text 4 s.frames (exec_start s x b) s W
  exec_start_keeps x start.Pushed h e = read_keeps (room_for 0 (ops s)) (λ _ _. leaves_keeps f (ops s) f.state.registers.operands)
  exec_start_keeps x start.Called h e = calls_keeps (drop 1 (ops s)) x (rest_fits 1) h
  exec_start_keeps x (start.Scanned part) h e =
      read_keeps (frames_room 1 s.frames) (λ _ _.
      then_keeps (text_of x part) (FitsFrame W.shapes) (text_looks W x part h (scanned_fits W.shapes x part h e)) (λ fr g.
      begins_keeps f (drop 1 (ops s)) fr (rest_fits 1) g))

  if_chosen : (b : Bool) (x : Object) → FitsObject W.shapes x → Keeps text 4 s.frames (cond b (calls s (drop 2 (ops s)) x) (leaves s (drop 2 (ops s)))) s W
  if_chosen true x h = calls_keeps (drop 2 (ops s)) x (rest_fits 2) h
  if_chosen false x h = leaves_keeps f (drop 2 (ops s)) (rest_fits 2)

  stands_keeps : (xs : List Object) (a : Act) → Fit W.shapes xs → FitsAct W.shapes a → Keeps text 4 s.frames (stands s xs a) s W
  stands_keeps xs a h g = frames_keeps f xs (frame.Stopped ∷ []) a h (tt, tt) g

  stopped_start_keeps : (x : Object) (b : Start) → FitsObject W.shapes x → start_of x ≡ Ok b → Keeps text 4 s.frames (stopped_start s x b) s W
  stopped_start_keeps x start.Pushed h e =
      read_keeps (room_for 0 (ops s)) (λ _ _.
      read_keeps (frames_room 1 s.frames) (λ _ _.
      stands_keeps (ops s) act.Done f.state.registers.operands tt))
  stopped_start_keeps x start.Called h e =
      read_keeps (frames_room (stopped_frames x) s.frames) (λ _ _.
      stands_keeps (drop 1 (ops s)) (call_of x) (rest_fits 1) (call_fits W.shapes x h))
  stopped_start_keeps x (start.Scanned part) h e =
      read_keeps (frames_room 2 s.frames) (λ _ _.
      then_keeps (text_of x part) (FitsFrame W.shapes) (text_looks W x part h (scanned_fits W.shapes x part h e)) (λ fr g.
      stands_keeps (drop 1 (ops s)) (act.Body fr) (rest_fits 1) g))

  ends_keeps : (a : Act) → FitsAct W.shapes a → Keeps text 4 s.frames (ends_by s a) s W
  ends_keeps a h = frames_keeps f (ops s) [] a f.state.registers.operands tt h

  loop_keeps : (n : ℕ) (fr : Frame) → FitsFrame W.shapes fr → Keeps text 4 s.frames (begins_loop s n fr) s W
  loop_keeps n fr h = read_keeps (frames_room 1 s.frames) (λ _ _. begins_keeps f (drop n (ops s)) fr (rest_fits n) h)

  walk_keeps : (x body : Object) (w : Walked) → FitsObject W.shapes x → FitsObject W.shapes body → walked_of x.kind ≡ Ok w → Keeps text 4 s.frames (walk_over s x body w) s W
  walk_keeps x body walked.Items h g e =
      read_keeps (read_right x.access) (λ _ _.
      read_keeps (run_right body.access) (λ _ _.
      loop_keeps 2 (frame.Items x 0 body) (h, g)))
  walk_keeps x body walked.Bytes h g e =
      read_keeps (read_right x.access) (λ _ _.
      read_keeps (run_right body.access) (λ _ _.
      loop_keeps 2 (frame.Bytes x 0 body) (h, g)))
  walk_keeps x body (walked.Pairs d) h g e =
      let here = walked_fits W.shapes x d h e in
      access_keeps here (λ a.
      read_keeps (read_right a) (λ _ _.
      read_keeps (run_right body.access) (λ _ _.
      read_keeps (frames_room 1 s.frames) (λ _ _.
      keys_keeps here (λ ks k.
      seeking_keeps (AllByRecursion (FitsPair W.shapes)) (pairs_from d ks []) (pairs_seek W d here ks [] k tt) (λ ps p.
      begins_keeps f (drop 2 (ops s)) (frame.Pairs ps 0 body) (rest_fits 2) (p, g)))))))

exec_keeps : IsLawful exec
exec_keeps text s W f =
    read_keeps (needed 1 (ops s)) (λ _ _.
    read_keeps (object_at 0 (ops s)) (λ x e.
    read_keeps (start_of x) (λ b q.
    exec_start_keeps text s W f x b (object_fits W.shapes (ops s) 0 x f.state.registers.operands e) q)))

if_keeps : IsLawful if_
if_keeps text s W f =
    read_keeps (needed 2 (ops s)) (λ _ _.
    read_keeps (procedure_at 0 (ops s)) (λ _ _.
    read_keeps (boolean_at 1 (ops s)) (λ b _.
    read_keeps (runnable_at 0 (ops s)) (λ _ _.
    read_keeps (object_at 0 (ops s)) (λ x e.
    if_chosen text s W f b x (object_fits W.shapes (ops s) 0 x f.state.registers.operands e))))))

ifelse_keeps : IsLawful ifelse
ifelse_keeps text s W f =
    read_keeps (needed 3 (ops s)) (λ _ _.
    read_keeps (procedure_at 0 (ops s)) (λ _ _.
    read_keeps (procedure_at 1 (ops s)) (λ _ _.
    read_keeps (boolean_at 2 (ops s)) (λ b _.
    read_keeps (runnable_at 0 (ops s)) (λ _ _.
    read_keeps (runnable_at 1 (ops s)) (λ _ _.
    read_keeps (object_at (chosen b) (ops s)) (λ x e.
    calls_keeps text s W f (drop 3 (ops s)) x (rest_fits text s W f 3) (object_fits W.shapes (ops s) (chosen b) x f.state.registers.operands e))))))))

stopped_keeps : IsLawful stopped
stopped_keeps text s W f =
    read_keeps (needed 1 (ops s)) (λ _ _.
    read_keeps (object_at 0 (ops s)) (λ x e.
    read_keeps (start_of x) (λ b q.
    stopped_start_keeps text s W f x b (object_fits W.shapes (ops s) 0 x f.state.registers.operands e) q)))

-- ---- operators that leave what runs

exit_keeps : IsLawful exit
exit_keeps text s W f = read_keeps (exit_right s.frames) (λ _ _. ends_keeps text s W f act.Exit tt)

stop_keeps : IsLawful stop
stop_keeps text s W f = read_keeps (stop_room s) (λ _ _. ends_keeps text s W f act.Stop tt)

quit_keeps : IsLawful quit
quit_keeps text s W f = ends_keeps text s W f act.Quit tt

-- ---- operators that begin loops

repeat_keeps : IsLawful repeat
repeat_keeps text s W f =
    read_keeps (needed 2 (ops s)) (λ _ _.
    read_keeps (procedure_at 0 (ops s)) (λ _ _.
    read_keeps (integer_at 1 (ops s)) (λ i _.
    read_keeps (runnable_at 0 (ops s)) (λ _ _.
    read_keeps (natural_of i) (λ n _.
    read_keeps (object_at 0 (ops s)) (λ body e.
    loop_keeps text s W f 2 (frame.Repeat body n) (object_fits W.shapes (ops s) 0 body f.state.registers.operands e)))))))

forever_keeps : IsLawful loop_
forever_keeps text s W f =
    read_keeps (needed 1 (ops s)) (λ _ _.
    read_keeps (procedure_at 0 (ops s)) (λ _ _.
    read_keeps (runnable_at 0 (ops s)) (λ _ _.
    read_keeps (object_at 0 (ops s)) (λ body e.
    loop_keeps text s W f 1 (frame.Loop body) (object_fits W.shapes (ops s) 0 body f.state.registers.operands e)))))

for_keeps : IsLawful for_
for_keeps text s W f =
    read_keeps (needed 4 (ops s)) (λ _ _.
    read_keeps (procedure_at 0 (ops s)) (λ _ _.
    read_keeps (number_at 1 (ops s)) (λ limit _.
    read_keeps (number_at 2 (ops s)) (λ increment _.
    read_keeps (number_at 3 (ops s)) (λ first _.
    read_keeps (runnable_at 0 (ops s)) (λ _ _.
    read_keeps (object_at 0 (ops s)) (λ body e.
    loop_keeps text s W f 4 (for_frame body first increment limit) (object_fits W.shapes (ops s) 0 body f.state.registers.operands e))))))))

forall_keeps : IsLawful forall_
forall_keeps text s W f =
    let o : Fit W.shapes (ops s) = f.state.registers.operands in
    read_keeps (needed 2 (ops s)) (λ _ _.
    read_keeps (procedure_at 0 (ops s)) (λ _ _.
    read_keeps (object_at 1 (ops s)) (λ x e.
    read_keeps (walked_of x.kind) (λ w q.
    read_keeps (object_at 0 (ops s)) (λ body b.
    walk_keeps text s W f x body w (object_fits W.shapes (ops s) 1 x o e) (object_fits W.shapes (ops s) 0 body o b) q)))))

-- ---- all of them

all_keep : AreLawful operators
all_keep =
    exec_keeps ▹ if_keeps ▹ ifelse_keeps ▹ for_keeps ▹ repeat_keeps ▹ forever_keeps ▹ forall_keeps
    ▹ exit_keeps ▹ stop_keeps ▹ quit_keeps ▹ stopped_keeps ▹ tt

pub run_keeps : (n : ℕ) → IsLawful (run n)
run_keeps = all_lawful operators all_keep
