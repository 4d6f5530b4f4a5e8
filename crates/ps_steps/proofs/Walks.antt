-- One step of the newest frame.
use Rattle.std.proofs.Common.{◌≡◌, ℕ, suc, ◌-◌, Bool, true, false, cond, List, [], ◌∷◌, drop, refl, sym, ap, ◌∙◌, subst, arith, true≢false, Ok}
use Rattle.std.specs.Bool.{⊤}
use Rattle.ps_objects.specs.declared.object.Object.{Object}
use Rattle.ps_kinds.specs.declared.act.Act.{Act}
use Rattle.ps_kinds.specs.declared.act.Act.TheVariants as act
use Rattle.ps_kinds.specs.declared.frame.Frame.{Frame}
use Rattle.ps_kinds.specs.declared.state.State.{State}
use Rattle.ps_memory.specs.Memory.{Output, value_at, shape_of}
use Rattle.ps_memory.specs.Tree.{Application, done, restores, fail, look, ask, ends, ◌>>=◌}
use Rattle.ps_meaning.specs.Answer.{Log, looked_in, changed_in, acted_in, is_outer, names_taken, Effect, act_done, state_done, Answer, answer_over}
use Rattle.ps_memory.specs.Memory.{restore}
use Rattle.ps_execution.specs.Budgets.{left, counted, taking}
use Rattle.ps_execution.specs.Execution as execution
use Rattle.ps_execution.specs.Execution.{on, applies_step}
use Rattle.ps_execution.specs.Frames.{begun_by}
use Rattle.ps_execution.specs.Machine.{raised, ended, settle_move}
use Rattle.ps_execution.specs.Reached.{reached, came, settled, settled_step}
use Rattle.ps_execution.specs.Table.{Table, Program}
use Rattle.ps_execution.proofs.Reached.{step_answered}
use Rattle.ps_operator.specs.Owes.{Gives}
use Rattle.ps_steps.specs.Next.{program}
use Rattle.ps_steps.specs.Operators.{CountsTurn, takes_step, step_in, step_of}
use Rattle.ps_steps.specs.Walks.{walk_of, costs_next, begun_next, given_back}

-- where an application fails, the state is as it was
abbrev FailsSo : Act → State → State → Type 0
FailsSo (act.Fail e) u s = u ≡ s
FailsSo _ u s = ⊤

not_failed : (a : Act) (u s : State) → FailsSo (act_done a) u s
not_failed act.Done u s = tt
not_failed (act.Body f) u s = tt
not_failed (act.Fail e) u s = tt
not_failed act.Exit u s = tt
not_failed act.Stop u s = tt
not_failed act.Quit u s = tt
not_failed (act.Say t) u s = tt
not_failed (act.Show w) u s = tt
not_failed (act.Outer q) u s = tt

abbrev FailsAs : State → Answer → Type 0
FailsAs s r = FailsSo r.act r.state s

fails_so : (fs : List Frame) (a : Application Effect) (s : State) (log : Log) → FailsAs s (answer_over fs a s log)
fails_so fs (done ws e) s log = not_failed e.act (state_done (names_taken ws) fs s e) s
fails_so fs (restores r ws e) s log = go (is_outer log r)
  where
    go : (b : Bool) → FailsAs s (cond b (record { act = act.Outer r; state = s; log = log }) (record { act = act_done e.act; state = state_done (names_taken ws) fs s e; log = changed_in (acted_in log (restore r)) ws }))
    go true = tt
    go false = not_failed e.act (state_done (names_taken ws) fs s e) s
fails_so fs (fail e) s log = refl
fails_so fs (look l f) s log = fails_so fs (f (value_at log.view l)) s (looked_in log l)
fails_so fs (ask c f) s log = fails_so fs (f (shape_of log.view c)) s log

failed_state : (fs : List Frame) (a : Application Effect) (s : State) (log : Log) (x : Act) (u : State) (there : Log) → answer_over fs a s log ≡ record { act = x; state = u; log = there } → FailsSo x u s
failed_state fs a s log x u there e = subst (FailsAs s) e (fails_so fs a s log)

free_settled : (P : Program) (x : Object) (a : Act) (s u : State) (there : Log) (out : List Output) → FailsSo a u s → settled_step P x a s u there out ≡ settled P x a u there out
free_settled P x (act.Fail e) s u there out h = ap (λ v. came (raised e x v) there out) (sym h)
free_settled P x act.Done s u there out h = refl
free_settled P x (act.Body f) s u there out h = refl
free_settled P x act.Exit s u there out h = refl
free_settled P x act.Stop s u there out h = refl
free_settled P x act.Quit s u there out h = refl
free_settled P x (act.Say t) s u there out h = refl
free_settled P x (act.Show w) s u there out h = refl
free_settled P x (act.Outer q) s u there out h = refl

turn_back : (s : State) → record (counted s) { turns = suc s.turns - 1 } ≡ s
turn_back s = let e : suc s.turns - 1 ≡ s.turns = omega arith in ap (λ n. record s { turns = n }) e

paid_settled : (P : Program) (x : Object) (a : Act) (s u : State) (there : Log) (out : List Output) → FailsSo a u (counted s) → settled_step P x a s u there out ≡ settled P x a (given_back a u) there out
paid_settled P x (act.Fail e) s u there out h = ap (λ v. came (raised e x v) there out) (sym (ap (λ (v : State). record v { turns = v.turns - 1 }) h ∙ turn_back s))
paid_settled P x act.Done s u there out h = refl
paid_settled P x (act.Body f) s u there out h = refl
paid_settled P x act.Exit s u there out h = refl
paid_settled P x act.Stop s u there out h = refl
paid_settled P x act.Quit s u there out h = refl
paid_settled P x (act.Say t) s u there out h = refl
paid_settled P x (act.Show w) s u there out h = refl
paid_settled P x (act.Outer q) s u there out h = refl

module _ (T : Table) (text : List ℕ) (log : Log) (out : List Output) where
  abbrev P : Program
  P = program T text

  free_on : (fs : List Frame) (s u : State) (a : Act) (there : Log) → takes_step fs ≡ true → costs_next fs ≡ false → answer_over (drop 1 fs) (step_in T text fs (on fs s)) (on fs s) log ≡ record { act = a; state = u; log = there }
      → reached (walk_of P fs (on fs s)) log out ≡ settled P (begun_next fs) a u there out
  free_on [] s u a there k c e = absurd (true≢false (sym k))
  free_on (f ∷ fs) s u a there k c e =
      ap (λ b. reached (cond b (taking (left s) (ends (ended execution.Spent (on [] s))) (λ t. applies_step P f t >>= settle_move P f (on fs s)) (on fs s)) (applies_step P f (on fs s) >>= settle_move P f (on fs s))) log out) c
      ∙ step_answered P f (on fs s) (on fs s) log out
      ∙ ap (λ (r : Answer). settled_step P (begun_by f) r.act (on (f ∷ fs) s) r.state r.log out) e
      ∙ free_settled P (begun_by f) a (on (f ∷ fs) s) u there out (failed_state fs (T.step f text (on (f ∷ fs) s)) (on (f ∷ fs) s) log a u there e)

  pub free_came : (s u : State) (a : Act) (there : Log) → takes_step s.frames ≡ true → costs_next s.frames ≡ false → Gives (answer_over (drop 1 s.frames) (step_of T text s) s log) (Ok a) u there
      → reached (walk_of (program T text) s.frames s) log out ≡ settled (program T text) (begun_next s.frames) a u there out
  free_came s u a there k c e = free_on s.frames s u a there k c e

  paid_on : (fs : List Frame) (s u : State) (n : ℕ) (a : Act) (there : Log) → left s ≡ suc n → takes_step fs ≡ true → costs_next fs ≡ true → answer_over (drop 1 fs) (step_in T text fs (counted (on fs s))) (counted (on fs s)) log ≡ record { act = a; state = u; log = there }
      → reached (walk_of P fs (on fs s)) log out ≡ settled P (begun_next fs) a (given_back a u) there out
  paid_on [] s u n a there l k c e = absurd (true≢false (sym k))
  paid_on (f ∷ fs) s u n a there l k c e =
      ap (λ b. reached (cond b (taking (left s) (ends (ended execution.Spent (on [] s))) (λ t. applies_step P f t >>= settle_move P f (on fs s)) (on fs s)) (applies_step P f (on fs s) >>= settle_move P f (on fs s))) log out) c
      ∙ ap (λ m. reached (taking m (ends (ended execution.Spent (on [] s))) (λ t. applies_step P f t >>= settle_move P f (on fs s)) (on fs s)) log out) l
      ∙ step_answered P f (on fs s) (counted (on fs s)) log out
      ∙ ap (λ (r : Answer). settled_step P (begun_by f) r.act (on (f ∷ fs) s) r.state r.log out) e
      ∙ paid_settled P (begun_by f) a (on (f ∷ fs) s) u there out (failed_state fs (T.step f text (counted (on (f ∷ fs) s))) (counted (on (f ∷ fs) s)) log a u there e)

  pub paid_came : (s t u : State) (a : Act) (there : Log) → takes_step s.frames ≡ true → costs_next s.frames ≡ true → CountsTurn true s t → Gives (answer_over (drop 1 t.frames) (step_of T text t) t log) (Ok a) u there
      → reached (walk_of (program T text) s.frames s) log out ≡ settled (program T text) (begun_next s.frames) a (given_back a u) there out
  paid_came s t u a there k c h e =
      paid_on s.frames s u h.0 a there h.1 k c (subst (λ v. answer_over (drop 1 v.frames) (step_of T text v) v log ≡ record { act = a; state = u; log = there }) h.2 e)

  spent_on : (fs : List Frame) (s : State) → left s ≡ 0 → takes_step fs ≡ true → costs_next fs ≡ true → reached (walk_of P fs (on fs s)) log out ≡ came (ended execution.Spent (on [] s)) log out
  spent_on [] s l k c = absurd (true≢false (sym k))
  spent_on (f ∷ fs) s l k c =
      ap (λ b. reached (cond b (taking (left s) (ends (ended execution.Spent (on [] s))) (λ t. applies_step P f t >>= settle_move P f (on fs s)) (on fs s)) (applies_step P f (on fs s) >>= settle_move P f (on fs s))) log out) c
      ∙ ap (λ m. reached (taking m (ends (ended execution.Spent (on [] s))) (λ t. applies_step P f t >>= settle_move P f (on fs s)) (on fs s)) log out) l

  pub paid_spent : (s t : State) → takes_step s.frames ≡ true → costs_next s.frames ≡ true → CountsTurn false s t → reached (walk_of (program T text) s.frames s) log out ≡ came (ended execution.Spent (on [] t)) log out
  paid_spent s t k c h = spent_on s.frames s h.0 k c ∙ ap (λ u. came (ended execution.Spent (on [] u)) log out) (sym h.1)

pub takes_counted : (s t : State) → CountsTurn true s t → takes_step s.frames ≡ true → takes_step t.frames ≡ true
takes_counted s t h k = subst (λ u. takes_step u.frames ≡ true) (sym h.2) k
