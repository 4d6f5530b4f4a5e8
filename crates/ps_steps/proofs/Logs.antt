-- The paper stays where it is.
use Rattle.std.proofs.Common.{◌≡◌, ℕ, Bool, true, false, cond, List, [], ◌∷◌, drop, Ok, sym, subst}
use Rattle.ps_kinds.specs.declared.act.Act.{Act}
use Rattle.ps_kinds.specs.declared.act.Act.TheVariants as act
use Rattle.ps_kinds.specs.declared.frame.Frame.{Frame}
use Rattle.ps_kinds.specs.declared.state.State.{State}
use Rattle.ps_objects.specs.declared.place.Loc.TheVariants as loc
use Rattle.ps_objects.specs.declared.place.Value.TheVariants as value
use Rattle.ps_memory.specs.Memory.{value_at, shape_of, blank, store, restore}
use Rattle.ps_memory.specs.Tree.{Change, action_of, done, restores, fail, look, ask}
use Rattle.ps_meaning.specs.Answer.{Log, looked_in, acted_in, changed_in, is_outer, names_taken, act_done, state_done, Answer, answer_over}
use Rattle.vm_mem.specs.Conditions.{page_is_here}
use Rattle.vm_mem.proofs.Conditions.{here_after}
use Rattle.ps_operator.specs.Tree.{Ask}
use Rattle.ps_operator.specs.Owes.{Runs, RunsStep}
use Rattle.ps_execution.specs.Table.{Leaving}
use Rattle.ps_steps.specs.Operators.{wiped_in, Leaves}

abbrev IsHere : Log → Type 0
IsHere log = page_is_here log.view ≡ true

changed_here : (log : Log) (ws : List Change) → IsHere log → IsHere (changed_in log ws)
changed_here log [] h = h
changed_here log (w ∷ ws) h = changed_here (acted_in log (action_of w)) ws (here_after (action_of w) log.view h)

answer_here : (below : List Frame) (a : Ask) (s : State) (log : Log) → IsHere log → IsHere (answer_over below a s log).log
answer_here below (done ws e) s log h = changed_here log ws h
answer_here below (restores r ws e) s log h = go (is_outer log r)
  where
    go : (b : Bool) → IsHere (cond {A = Answer} b (record { act = act.Outer r; state = s; log = log }) (record { act = act_done e.act; state = state_done (names_taken ws) below s e; log = changed_in (acted_in log (restore r)) ws })).log
    go true = h
    go false = changed_here (acted_in log (restore r)) ws (here_after (restore r) log.view h)
answer_here below (fail e) s log h = h
answer_here below (look l f) s log h = answer_here below (f (value_at log.view l)) s (looked_in log l) h
answer_here below (ask c f) s log h = answer_here below (f (shape_of log.view c)) s log h

pub answered_here : (below : List Frame) (a : Ask) (s u : State) (x : Act) (log there : Log) → answer_over below a s log ≡ record { act = x; state = u; log = there } → page_is_here log.view ≡ true → page_is_here there.view ≡ true
answered_here below a s u x log there e h = subst (λ (r : Answer). IsHere r.log) e (answer_here below a s log h)

-- after an operator
pub ran_here : (t : State → Ask) (s u : State) (x : Act) (log there : Log) → Runs t s log (Ok x) u there → page_is_here log.view ≡ true → page_is_here there.view ≡ true
ran_here t s u x log there e h = answered_here s.frames (t s) s u x log there e h

-- after a step
pub stepped_here : (t : State → Ask) (s u : State) (x : Act) (log there : Log) → RunsStep t s log (Ok x) u there → page_is_here log.view ≡ true → page_is_here there.view ≡ true
stepped_here t s u x log there e h = subst (λ (r : Answer). IsHere r.log) e (answer_here (drop 1 s.frames) (t s) s log h)

wiped_here : (b : Bool) (w h : ℕ) (log : Log) → IsHere log → IsHere (wiped_in b w h log)
wiped_here false w h log g = g
wiped_here true w h log g = here_after (store loc.Paper (value.Paper (blank w h))) log.view g

-- after a show was left
pub left_here : (l : State → Leaving) (s u : State) (log there : Log) → Leaves l s log (Ok tt) u there → page_is_here log.view ≡ true → page_is_here there.view ≡ true
left_here l s u log there e h = subst (λ (k : Log). page_is_here k.view ≡ true) (sym e.1) (wiped_here (l s).wipes (l s).regs.state.wide (l s).regs.state.high log h)
