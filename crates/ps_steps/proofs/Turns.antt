-- One turn.
use Rattle.std.proofs.Common.{◌+◌, ◌*◌, ◌≤◌, ◌≡◌, ℕ, zero, suc, ◌<◌, ◌-◌, true, false, List, [], refl, sym, ap, ◌∙◌, subst, arith}
use Rattle.ps_objects.specs.declared.object.Object.{Object}
use Rattle.ps_kinds.specs.declared.act.Act.{Act}
use Rattle.ps_kinds.specs.declared.act.Act.TheVariants as act
use Rattle.ps_kinds.specs.declared.state.State.{State}
use Rattle.ps_memory.specs.Memory.{Memory, Output}
use Rattle.ps_memory.specs.Tree.{Tree, ends, ◌>>=◌}
use Rattle.ps_meaning.specs.Answer.{Log}
use Rattle.ps_meaning.specs.Registers.{world_of}
use Rattle.ps_execution.specs.Budgets.{left, counted, taking}
use Rattle.ps_meaning.specs.Budgets.{turn_budget, unit_budget}
use Rattle.ps_meaning.specs.Ready.{ReadyIn}
use Rattle.ps_objects.specs.declared.section.SectionKind.{SectionKind}
use Rattle.ps_objects.specs.declared.section.SectionKind.TheVariants.{Prolog, Setup, Page, Trailer}
use Rattle.ps_execution.specs.Execution as execution
use Rattle.ps_execution.specs.Execution.{on, applies}
use Rattle.ps_execution.specs.Machine.{Move, ended, moves, move_turn}
use Rattle.ps_execution.specs.Objects.{executes}
use Rattle.ps_execution.specs.Reached.{reached, came, settled}
use Rattle.ps_execution.specs.Table.{Program}
use Rattle.ps_execution.proofs.Lawful.{whole_counted}
use Rattle.ps_execution.proofs.Reached.{answered}
use Rattle.ps_steps.specs.Executing.{object_turn, met_answer, led}
use Rattle.ps_steps.specs.Operators.{IsFailed, CountsTurn}
use Rattle.ps_reader.specs.Reading.{IsReady}

pub some_left : (s : State) → s.turns < turn_budget s.kind → CountsTurn true s (counted s)
some_left s h = (turn_budget s.kind - suc s.turns, omega (arith, h), refl)

pub none_left : (s : State) → ¬ (s.turns < turn_budget s.kind) → CountsTurn false s s
none_left s h = (omega (arith, h), refl)

module _ (P : Program) (x : Object) (s : State) (log : Log) (out : List Output) where
  abbrev turn_of : ℕ → Tree Move
  turn_of n = taking n (ends (ended execution.Spent (on [] s))) (λ t. applies t.frames (executes P x t) t >>= moves P x) s

  spent_at : (n : ℕ) → n ≡ 0 → reached (turn_of n) log out ≡ came (ended execution.Spent (on [] s)) log out
  spent_at zero e = refl
  spent_at (suc n) e = absurd (omega (arith, e))

  -- none is left
  pub turn_spent : (t : State) → CountsTurn false s t → reached (move_turn P x (executes P x) s) log out ≡ came (ended execution.Spent (on [] t)) log out
  turn_spent t h = spent_at (left s) h.0 ∙ ap (λ u. came (ended execution.Spent (on [] u)) log out) (sym h.1)

  pub settled_object : (y : Object) (a : Act) (t : State) (there : Log) → IsFailed a (y ≡ x) → settled P x a t there out ≡ settled P y a t there out
  settled_object y act.Done t there h = refl
  settled_object y (act.Body f) t there h = refl
  settled_object y (act.Fail e) t there h = ap (λ z. settled P z (act.Fail e) t there out) (sym h)
  settled_object y act.Exit t there h = refl
  settled_object y act.Stop t there h = refl
  settled_object y act.Quit t there h = refl
  settled_object y (act.Say w) t there h = refl
  settled_object y (act.Show w) t there h = refl
  settled_object y (act.Outer q) t there h = refl

pub turn_led : (P : Program) (x : Object) (s t : State) (log : Log) → CountsTurn true s t → reached (object_turn P x s) log [] ≡ led P x (met_answer P x t log)
turn_led P x s t log h =
    go (left s) h.1
    ∙ subst (λ v. reached (applies v.frames (executes P x v) v >>= moves P x) log [] ≡ led P x (met_answer P x t log)) h.2 (answered P x (executes P x t) t log [])
  where
    go : (n : ℕ) → n ≡ suc h.0 → reached (turn_of P x s log [] n) log [] ≡ reached (applies s.frames (executes P x (counted s)) (counted s) >>= moves P x) log []
    go zero e = absurd (omega (arith, e))
    go (suc n) e = refl

pub turn_ready : (n : ℕ) (text : List ℕ) (s t : State) (M : Memory) → CountsTurn true s t → IsReady n text s M → IsReady n text t M
turn_ready n text s t M h r =
    subst (λ u. IsReady n text u M) (sym h.2) (record { fits = whole_counted text (world_of s.section M) s h.0 h.1 r.fits; memory = r.memory; paid = let p : s.count ≤ 5 * s.turns + s.units + n = r.paid in omega (arith, p) })

-- ---- what an operator relies on

small : (k : SectionKind) (turns units count : ℕ) → turns ≤ turn_budget k → units ≤ unit_budget k → count ≤ 5 * turns + units + 1 → count ≤ 2147483648
small Prolog turns units count a b c = omega (arith, a, b, c)
small Setup turns units count a b c = omega (arith, a, b, c)
small Page turns units count a b c = omega (arith, a, b, c)
small Trailer turns units count a b c = omega (arith, a, b, c)

pub ready_in : (text : List ℕ) (s : State) (M : Memory) → IsReady 1 text s M → ReadyIn text s M
ready_in text s M r = record {
  ready = record { state = r.fits.state; memory = r.memory; count = small s.kind s.turns s.units s.count r.fits.state.budget.turns r.fits.state.budget.units r.paid };
  within = r.fits.within;
}
