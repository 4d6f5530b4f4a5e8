-- What executing an object leads to.
use Rattle.std.proofs.Common.{◌≡◌, ℕ, true, false, true≢false, cond, [], Some, None, Result, Ok, refl, sym, ap, ◌∙◌, subst}
use Rattle.copy_lists.specs.declared.memory.NoMemory.{NoMemory}
use Rattle.ps_names.specs.declared.error_name.ErrorName.TheVariants.{Undefined}
use Rattle.ps_objects.specs.declared.access.Access.{Access}
use Rattle.ps_objects.specs.declared.key.Key.{Key}
use Rattle.ps_objects.specs.declared.object.Kind.{Kind}
use Rattle.ps_objects.specs.declared.object.Kind.TheVariants as kind
use Rattle.ps_objects.specs.declared.object.Object.{Object}
use Rattle.ps_kinds.specs.declared.act.Act.{Act}
use Rattle.ps_kinds.specs.declared.act.Act.TheVariants as act
use Rattle.ps_kinds.specs.declared.state.State.{State}
use Rattle.ps_memory.specs.Memory.{Memory}
use Rattle.ps_memory.specs.Tree.{fail}
use Rattle.ps_meaning.specs.Answer.{Log, answer}
use Rattle.ps_operator.specs.Owes.{Runs}
use Rattle.ps_execution.specs.Machine.{goes}
use Rattle.ps_execution.specs.Objects.{goes_on, pushes, runs_string, searches, value_kind, runs_value, met_kind}
use Rattle.ps_execution.specs.Reached.{came, settled}
use Rattle.ps_execution.specs.Table.{Program}
use Rattle.ps_steps.specs.Executing.{is_procedure, key_in, name_object, Calls, name_answer, met_answer, led, is_done}
use Rattle.ps_steps.specs.Met.{object_of}
use Rattle.ps_steps.specs.Next.{Comes}
use Rattle.ps_steps.specs.Operators.{FitsHere, Executed}
use Rattle.ps_steps.specs.declared.executing.Executable.TheVariants as called
use Rattle.ps_steps.specs.declared.met.Met.TheVariants as met
use Rattle.ps_steps.specs.declared.next.Next.{Next}
use Rattle.ps_steps.proofs.Executes.{met_literal, met_as, met_name_is}
use Rattle.ps_steps.proofs.Turns.{settled_object}

-- a procedure that was met is pushed
procedure_pushed : (P : Program) (x : Object) (s : State) (k : Kind) → is_procedure k ≡ true → met_kind P x k s ≡ pushes x s
procedure_pushed P x s (kind.Array part packed) h = refl
procedure_pushed P x s _ h = absurd (true≢false (sym h))

-- any other object but a name is executed as if a name had led to it
same_as_value : (P : Program) (x : Object) (s : State) (k : Kind) → key_in k ≡ None → is_procedure k ≡ false → x.exec ≡ true → met_kind P x k s ≡ value_kind P x k s
same_as_value P x s (kind.Operator n) h g e = refl
same_as_value P x s (kind.Name n) h g e = absurd (some_none h)
  where
    some_none : {A : Type 0} {y : A} → Some y ≡ None → ⊥
    some_none e = cc
same_as_value P x s (kind.Array part packed) h g e = absurd (true≢false g)
same_as_value P x s (kind.Str part) h g e = sym (ap (λ b. cond b (runs_string x part s) (pushes x s)) e)
same_as_value P x s kind.Null h g e = sym (ap (λ b. cond b (goes_on s) (pushes x s)) e)
same_as_value P x s (kind.Integer z) h g e = sym (ap (λ b. cond b (pushes x s) (pushes x s)) e)
same_as_value P x s (kind.Real z) h g e = sym (ap (λ b. cond b (pushes x s) (pushes x s)) e)
same_as_value P x s (kind.Boolean z) h g e = sym (ap (λ b. cond b (pushes x s) (pushes x s)) e)
same_as_value P x s kind.Mark h g e = sym (ap (λ b. cond b (pushes x s) (pushes x s)) e)
same_as_value P x s (kind.Dict z) h g e = sym (ap (λ b. cond b (pushes x s) (pushes x s)) e)
same_as_value P x s (kind.File z) h g e = sym (ap (λ b. cond b (pushes x s) (pushes x s)) e)
same_as_value P x s (kind.Filter z m) h g e = sym (ap (λ b. cond b (pushes x s) (pushes x s)) e)
same_as_value P x s (kind.Save z) h g e = sym (ap (λ b. cond b (pushes x s) (pushes x s)) e)
same_as_value P x s (kind.FontId z) h g e = sym (ap (λ b. cond b (pushes x s) (pushes x s)) e)

module _ (P : Program) (x : Object) (s : State) (log : Log) where
  pub literal_led : (r : Result Next NoMemory) (t : State) → x.exec ≡ false → Comes (led P x (answer (pushes x s) s log)) r t log → Comes (led P x (met_answer P x s log)) r t log
  literal_led r t e h = subst (λ a. Comes (led P x a) r t log) (sym (met_literal P x s log e)) h

  pub other_led : (y z : Object) (a : Act) (u : State) (there : Log) → Calls x (called.Other y) → Executed y (answer (runs_value P y s) s log) (Ok (a, z)) u there → led P x (met_answer P x s log) ≡ settled P z a u there []
  other_led y z a u there c h =
      ap (λ t. led P x (answer t s log)) (met_as P x s (value_kind P x x.kind s) c.1 (same_as_value P x s x.kind c.3 c.2 c.1))
      ∙ sym (ap (λ w. led P w (answer (runs_value P w s) s log)) c.0)
      ∙ ap (led P y) h.0
      ∙ settled_object P y s log [] z a u there h.1

  pub procedure_led : (r : Result Next NoMemory) (t : State) (y : Object) → Calls x (called.Procedure y) → Comes (led P y (answer (pushes y s) s log)) r t log → Comes (led P x (met_answer P x s log)) r t log
  procedure_led r t y c h =
      subst (λ a. Comes (led P x a) r t log) (sym (ap (λ t. answer t s log) (met_as P x s (pushes x s) c.1 (procedure_pushed P x s x.kind c.2))))
      (subst (λ w. Comes (led P w (answer (pushes w s) s log)) r t log) c.0 h)

  pub called_led : (k : Key) (b : Access) → Calls x (called.Name k b) → led P x (met_answer P x s log) ≡ led P (name_object k b) (name_answer P k s log)
  called_led k b h =
      ap (led P x) (ap (λ t. answer t s log) (met_as P x s (searches s.regs.dicts k (λ y. runs_value P y s) (fail Undefined)) (ap (λ (y : Object). y.exec) h.0) (met_name_is P x s x.kind k h.1)))
      ∙ ap (λ y. led P y (name_answer P k s log)) h.0

pub other_fits : (M : Memory) (x y : Object) → Calls x (called.Other y) → FitsHere M x → FitsHere M y
other_fits M x y h f = subst (FitsHere M) (sym h.0) f

pub bound_led : (P : Program) (op : ℕ) (s u : State) (a : Act) (log there : Log) → Runs (P.table.run op P.text) s log (Ok a) u there
    → led P (object_of (met.Operator op)) (met_answer P (object_of (met.Operator op)) s log) ≡ settled P (object_of (met.Operator op)) a u there []
bound_led P op s u a log there e = ap (led P (object_of (met.Operator op))) e

pub done_settled : (P : Program) (x : Object) (a : Act) (u : State) (there : Log) → is_done a ≡ true → settled P x a u there [] ≡ came (goes u) there []
done_settled P x act.Done u there e = refl
done_settled P x (act.Body f) u there e = absurd (true≢false (sym e))
done_settled P x (act.Fail c) u there e = absurd (true≢false (sym e))
done_settled P x act.Exit u there e = absurd (true≢false (sym e))
done_settled P x act.Stop u there e = absurd (true≢false (sym e))
done_settled P x act.Quit u there e = absurd (true≢false (sym e))
done_settled P x (act.Say t) u there e = absurd (true≢false (sym e))
done_settled P x (act.Show w) u there e = absurd (true≢false (sym e))
done_settled P x (act.Outer q) u there e = absurd (true≢false (sym e))
