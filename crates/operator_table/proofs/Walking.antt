-- A step of the newest frame, which is one of the control operators, a walk along a path, or of no crate that is there.
use Rattle.std.proofs.Common.{◌≡◌, ℕ, Bool, true, false, cond, List, [], ◌∷◌, length, Option, Some, slice_get, Result, Ok, refl, sym, ap, ◌∙◌, subst}
use Rattle.copy_lists.specs.declared.memory.NoMemory.{NoMemory}
use Rattle.ps_names.specs.declared.error_name.ErrorName.TheVariants.{Undefined}
use Rattle.ps_kinds.specs.declared.act.Act.{Act}
use Rattle.ps_kinds.specs.declared.act.Act.TheVariants as act
use Rattle.ps_kinds.specs.declared.frame.Frame.{Frame}
use Rattle.ps_kinds.specs.declared.state.State.{State}
use Rattle.ps_memory.specs.Tree.{fail}
use Rattle.ps_meaning.specs.Answer.{Log, step_answer}
use Rattle.ps_operator.specs.Tree.{Ask}
use Rattle.ps_operator.specs.Owes.{Gives, RunsStep}
use Rattle.ps_steps.specs.Operators.{step_in, step_of}
use Rattle.control_ops.specs.Rounds as rounds
use Rattle.path_build.specs.Walks as walks
use Rattle.operator_table.specs.Operators.{table}

-- ---- the newest frame, or none

module _ (P : Frame → Bool) (among : List Frame → Bool) (none : among [] ≡ false) (first : (f : Frame) (fs : List Frame) → among (f ∷ fs) ≡ P f) where
  first_of : (fs : List Frame) (f : Frame) → slice_get fs 0 ≡ Some f → P f ≡ among fs
  first_of [] f h = absurd cc
  first_of (g ∷ fs) f h = let e : g ≡ f = cc in sym (first g fs ∙ ap P e)

  none_of : (fs : List Frame) → length fs ≡ 0 → among fs ≡ false
  none_of [] h = none
  none_of (f ∷ fs) h = absurd cc

pub walks_first : (fs : List Frame) (f : Frame) → slice_get fs 0 ≡ Some f → rounds.walks f ≡ rounds.walks_in fs
walks_first = first_of rounds.walks rounds.walks_in refl (λ f fs. refl)

pub walks_none : (fs : List Frame) → length fs ≡ 0 → rounds.walks_in fs ≡ false
walks_none = none_of rounds.walks rounds.walks_in refl (λ f fs. refl)

pub path_walks_first : (fs : List Frame) (f : Frame) → slice_get fs 0 ≡ Some f → walks.walks f ≡ walks.walks_in fs
path_walks_first = first_of walks.walks walks.walks_in refl (λ f fs. refl)

pub path_walks_none : (fs : List Frame) → length fs ≡ 0 → walks.walks_in fs ≡ false
path_walks_none = none_of walks.walks walks.walks_in refl (λ f fs. refl)

module _ (text : List ℕ) (s : State) where
  -- the step of a walk along a path, or of no crate's frame
  abbrev rest_step : Frame → Ask
  rest_step f = cond (walks.walks f) (walks.step f s) (fail Undefined)

  -- the newest frame takes its own step
  step_there : (fs : List Frame) → rounds.walks_in fs ≡ true → step_in table text fs s ≡ rounds.step_in fs s
  step_there [] h = refl
  step_there (f ∷ fs) h = ap (λ b. cond b (rounds.step f s) (rest_step f)) h

  path_there : (fs : List Frame) → rounds.walks_in fs ≡ false → walks.walks_in fs ≡ true → step_in table text fs s ≡ walks.step_in fs s
  path_there [] h g = refl
  path_there (f ∷ fs) h g = ap (λ b. cond b (rounds.step f s) (rest_step f)) h ∙ ap (λ b. cond b (walks.step f s) (fail Undefined)) g

  -- that of no crate is undefined
  step_absent : (fs : List Frame) → rounds.walks_in fs ≡ false → walks.walks_in fs ≡ false → step_in table text fs s ≡ fail Undefined
  step_absent [] h g = refl
  step_absent (f ∷ fs) h g = ap (λ b. cond b (rounds.step f s) (rest_step f)) h ∙ ap (λ b. cond b (walks.step f s) (fail Undefined)) g

  pub runs_there : (log : Log) (r : Result Act NoMemory) (t : State) (there : Log) → rounds.walks_in s.frames ≡ true → RunsStep rounds.newest_step s log r t there → RunsStep (step_of table text) s log r t there
  runs_there log r t there h p = subst (λ a. Gives (step_answer a s log) r t there) (sym (step_there s.frames h)) p

  pub runs_path : (log : Log) (r : Result Act NoMemory) (t : State) (there : Log) → rounds.walks_in s.frames ≡ false → walks.walks_in s.frames ≡ true → RunsStep walks.newest_step s log r t there → RunsStep (step_of table text) s log r t there
  runs_path log r t there h g p = subst (λ a. Gives (step_answer a s log) r t there) (sym (path_there s.frames h g)) p

  pub runs_absent : (log : Log) → rounds.walks_in s.frames ≡ false → walks.walks_in s.frames ≡ false → RunsStep (step_of table text) s log (Ok (act.Fail Undefined)) s log
  runs_absent log h g = subst (λ a. Gives (step_answer a s log) (Ok (act.Fail Undefined)) s log) (sym (step_absent s.frames h g)) refl
