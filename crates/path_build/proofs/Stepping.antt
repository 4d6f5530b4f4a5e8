-- From the step of a walk to that of the newest frame.
use Rattle.std.proofs.Common.{◌≡◌, List, ◌∷◌, Result, Ok, Err, sym, ap, ◌∙◌, subst}
use Rattle.ps_objects.specs.declared.refusal.Refusal.{Refusal}
use Rattle.ps_objects.specs.declared.refusal.Refusal.TheVariants as refusal
use Rattle.ps_kinds.specs.declared.act.Act.{Act}
use Rattle.ps_kinds.specs.declared.frame.Frame.{Frame}
use Rattle.ps_kinds.specs.declared.state.State.{State}
use Rattle.ps_meaning.specs.Answer.{Log}
use Rattle.ps_operator.specs.Owes.{Steps, StepsAlone, RunsStep, told}
use Rattle.ps_operator.specs.Tree.{Ask}
use Rattle.path_build.specs.Walks.{step, newest_step, with_frame}

steps_told : (t : State → Ask) (before : State) (old : Log) (r : Result Act Refusal) (s : State) → Steps t before old r s old → RunsStep t before old (told r) s old
steps_told t before old (Ok a) s h = h
steps_told t before old (Err (refusal.Error e)) s h = h
steps_told t before old (Err refusal.NoMemory) s h = tt

-- what the machine is told is what the step owes
pub told_steps : (t : State → Ask) (before : State) (old : Log) (r : Result Act Refusal) (s : State) → StepsAlone t before r s → RunsStep t before old (told r) s old
told_steps t before old r s h = steps_told t before old r s (h old)

-- a frame was taken off, and its step is that of the newest
pub stepped : (f g : Frame) (s : State) (fs : List Frame) (r : Result Act Refusal) (u : State) → s.frames ≡ g ∷ fs → g ≡ f
    → StepsAlone (step f) (with_frame f (record s { frames = fs })) r u → StepsAlone newest_step s r u
stepped f g s fs r u p q h =
    subst (λ gs. StepsAlone newest_step (record s { frames = gs }) r u) (sym (p ∙ ap (λ x. x ∷ fs) q)) h
