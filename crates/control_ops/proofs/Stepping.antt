-- From the step of a frame to that of the newest.
use Rattle.std.proofs.Common.{◌≡◌, ℕ, zero, suc, nat_eq, true, false, List, ◌∷◌, Result, Ok, Err, sym, ap, ◌∙◌, subst, true≢false}
use Rattle.ps_names.specs.declared.error_name.ErrorName.{ErrorName}
use Rattle.ps_objects.specs.declared.object.Object.{Object}
use Rattle.ps_objects.specs.declared.refusal.Refusal.{Refusal}
use Rattle.ps_objects.specs.declared.refusal.Refusal.TheVariants as refusal
use Rattle.ps_kinds.specs.declared.act.Act.{Act}
use Rattle.ps_kinds.specs.declared.act.Act.TheVariants as act
use Rattle.ps_kinds.specs.declared.frame.Frame.{Frame}
use Rattle.ps_kinds.specs.declared.frame.Frame.TheVariants as frame
use Rattle.ps_kinds.specs.declared.state.State.{State}
use Rattle.ps_memory.specs.Memory.{Memory, shape_at}
use Rattle.ps_meaning.specs.Answer.{Log, answer_over}
use Rattle.ps_meaning.specs.Ready.{FitFrames, Ready}
use Rattle.ps_operator.specs.Owes.{Meets, Steps, RunsStep, told}
use Rattle.ps_operator.specs.Standing.{is_named}
use Rattle.ps_operator.specs.Registers.{ops}
use Rattle.ps_operator.specs.Tree.{Ask, read}
use Rattle.ps_operator.proofs.Standing.{named}
use Rattle.control_ops.specs.Rounds.{round, repeat_step, step, newest_step, with_frame, room_above, PutsBack}

-- what the machine is told is what the step owes
pub told_steps : (t : State → Ask) (before : State) (old : Log) (r : Result Act Refusal) (s : State) (log : Log) → Steps t before old r s log → RunsStep t before old (told r) s log
told_steps t before old (Ok a) s log h = h
told_steps t before old (Err (refusal.Error e)) s log h = h
told_steps t before old (Err refusal.NoMemory) s log h = tt

-- a frame was taken off, and its step is that of the newest
pub stepped : (f g : Frame) (s : State) (fs : List Frame) (old : Log) (r : Result Act Refusal) (u : State) (log : Log) → s.frames ≡ g ∷ fs → g ≡ f
    → Steps (step f) (with_frame f (record s { frames = fs })) old r u log → Steps newest_step s old r u log
stepped f g s fs old r u log p q h =
    subst (λ gs. Steps newest_step (record s { frames = gs }) old r u log) (sym (p ∙ ap (λ x. x ∷ fs) q)) h

module _ (s : State) (M : Memory) (r : Ready s M) (fs : List Frame) where
  pub array_here : (array : Object) (at : ℕ) (body : Object) → s.frames ≡ frame.Items array at body ∷ fs → is_named M array.kind ≡ true
  array_here array at body p = named s M r array.kind (subst (FitFrames (shape_at M)) p r.state.frames).0.0

  pub string_here : (string : Object) (at : ℕ) (body : Object) → s.frames ≡ frame.Bytes string at body ∷ fs → is_named M string.kind ≡ true
  string_here string at body p = named s M r string.kind (subst (FitFrames (shape_at M)) p r.state.frames).0.0

-- a step that failed put its frame back
puts_meets : (f : Frame) (e : ErrorName) (before : State) (r : Result Act Refusal) (after : State) (log : Log) → PutsBack f e before r after
    → Meets (record { act = act.Fail e; state = with_frame f before; log = log }) r after log
puts_meets f e before (Ok a) after log h = absurd h
puts_meets f e before (Err (refusal.Error x)) after log h = λ i. record { act = act.Fail (sym h.0 i); state = sym h.1 i; log = log }
puts_meets f e before (Err refusal.NoMemory) after log h = tt

-- no room for a round of `repeat`
pub repeat_refused : (body : Object) (n : ℕ) (e : ErrorName) (before : State) (r : Result Act Refusal) (after : State) (log : Log) → nat_eq n 0 ≡ false
    → Err e ≡ room_above body before.frames → PutsBack (frame.Repeat body n) e before r after → Steps (repeat_step body n) (with_frame (frame.Repeat body n) before) log r after log
repeat_refused body zero e before r after log p h g = absurd (true≢false p)
repeat_refused body (suc n) e before r after log p h g =
    let f = frame.Repeat body (suc n) in
    subst (λ (x : Result (Unit {0}) ErrorName). Meets (answer_over before.frames (read x (λ _. round (with_frame f before) (ops before) (frame.Repeat body n) body)) (with_frame f before) log) r after log)
    h (puts_meets f e before r after log g)
