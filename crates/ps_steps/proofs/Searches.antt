-- The search for a name, as both trees do it.
use Rattle.std.proofs.Common.{true, true≢false, ◌≡◌, ℕ, List, [], ◌∷◌, Option, Result, Ok, Err, refl, sym, ap, ◌∙◌, subst}
use Rattle.std.specs.List.{AllByRecursion}
use Rattle.ps_objects.specs.declared.access.Access.{Access}
use Rattle.ps_objects.specs.declared.cell.Cell.{Cell}
use Rattle.ps_names.specs.declared.error_name.ErrorName.{ErrorName}
use Rattle.ps_names.specs.declared.error_name.ErrorName.TheVariants.{Undefined}
use Rattle.ps_objects.specs.declared.key.Key.{Key}
use Rattle.ps_objects.specs.declared.object.Object.{Object}
use Rattle.ps_objects.specs.declared.place.Loc.TheVariants as loc
use Rattle.ps_objects.specs.declared.place.Value.{Value}
use Rattle.ps_objects.specs.declared.place.Value.TheVariants as value
use Rattle.ps_kinds.specs.declared.act.Act.{Act}
use Rattle.ps_kinds.specs.declared.act.Act.TheVariants as act
use Rattle.ps_kinds.specs.declared.frame.Frame.{Frame}
use Rattle.ps_kinds.specs.declared.state.State.{State}
use Rattle.ps_memory.specs.Memory.{Memory, value_at, shape_of}
use Rattle.ps_memory.specs.Track.{Track}
use Rattle.ps_memory.specs.Tree.{Application, done, restores, fail, look, ask}
use Rattle.ps_meaning.specs.Answer.{Log, looked_in, Effect, answer, answer_over}
use Rattle.ps_meaning.specs.Fits.{FitsObject, IsDict}
use Rattle.ps_meaning.specs.Registers.{world_of}
use Rattle.ps_meaning.specs.Sound.{World, IsAnswer, SoundMemory}
use Rattle.ps_meaning.proofs.Ground.{answered}
use Rattle.ps_operator.specs.Keys.{find, found_or}
use Rattle.ps_operator.specs.Looks.{entry_then}
use Rattle.ps_operator.specs.Standing.{is_entry, are_dicts}
use Rattle.ps_operator.specs.Owes.{Runs}
use Rattle.ps_operator.specs.Tree.{Reading, reads, found}
use Rattle.ps_operator.proofs.Looked.{entry_found}
use Rattle.ps_operator.proofs.Standing.{dicts_stand}
use Rattle.ps_execution.specs.Objects.{found_in, searches, runs_value}
use Rattle.ps_execution.specs.Machine.{raised}
use Rattle.ps_execution.specs.Reached.{came, settled}
use Rattle.ps_execution.specs.Table.{Program}
use Rattle.ps_steps.specs.Executing.{name_object, name_answer, led}
use Rattle.ps_steps.specs.Operators.{FitsHere}
use Rattle.ps_reader.specs.Reading.{IsReady}
use Rattle.ps_steps.proofs.Turns.{ready_in}

abbrev Same : Result Object ErrorName → Result Object ErrorName → Type 0
Same p q = p ≡ q

ok_same : {x y : Object} → Same (Ok x) (Ok y) → x ≡ y
ok_same e = cc

err_same : {x y : ErrorName} → Same (Err x) (Err y) → x ≡ y
err_same e = cc

not_ok : {x : ErrorName} {y : Object} → Same (Err x) (Ok y) → ⊥
not_ok e = cc

not_err : {x : Object} {y : ErrorName} → Same (Ok x) (Err y) → ⊥
not_err e = cc

abbrev outcome : {p q : Reading Object} → p ≡ q → Same p.outcome q.outcome
outcome e = ap (λ (r : Reading Object). r.outcome) e

module _ (below : List Frame) (s : State) (k : Key) (lead : Object → Application Effect) where
  leads : (ds : List Cell) (missing : Application Effect) (log there : Log) (y : Object) → reads (find ds k) log ≡ record { outcome = Ok y; log = there } → answer_over below (searches ds k lead missing) s log ≡ answer_over below (lead y) s there
  leads [] missing log there y e = absurd (not_ok (outcome e))
  leads (d ∷ ds) missing log there y e = go (value_at log.view (loc.Entry d k)) (leads ds missing (looked_in log (loc.Entry d k)) there y) e
    where
      next : Log
      next = looked_in log (loc.Entry d k)

      go : (v : Value) → (reads (find ds k) next ≡ record { outcome = Ok y; log = there } → answer_over below (searches ds k lead missing) s next ≡ answer_over below (lead y) s there)
          → reads (entry_then (found_or (find ds k) found) v) next ≡ record { outcome = Ok y; log = there } → answer_over below (found_in v lead (searches ds k lead missing)) s next ≡ answer_over below (lead y) s there
      go (value.Object x) r e = ap (λ z. answer_over below (lead z) s next) (ok_same (outcome e)) ∙ ap (answer_over below (lead y) s) (ap (λ (r : Reading Object). r.log) e)
      go value.Absent r e = r e
      go (value.Byte b) r e = absurd (not_ok (outcome e))
      go (value.Access x) r e = absurd (not_ok (outcome e))
      go (value.Keys ks) r e = absurd (not_ok (outcome e))
      go (value.Rand m) r e = absurd (not_ok (outcome e))
      go (value.Paper p) r e = absurd (not_ok (outcome e))

  misses : (ds : List Cell) (log there : Log) (y : ErrorName) → reads (find ds k) log ≡ record { outcome = Err y; log = there } → answer_over below (searches ds k lead (fail Undefined)) s log ≡ record { act = act.Fail y; state = s; log = there }
  misses [] log there y e = ap (λ z. record { act = act.Fail z; state = s; log = log }) (err_same (outcome e)) ∙ ap (λ l. record { act = act.Fail y; state = s; log = l }) (ap (λ (r : Reading Object). r.log) e)
  misses (d ∷ ds) log there y e = go (value_at log.view (loc.Entry d k)) (entry_found log.view d k (value_at log.view (loc.Entry d k)) refl) (misses ds (looked_in log (loc.Entry d k)) there y) e
    where
      next : Log
      next = looked_in log (loc.Entry d k)

      go : (v : Value) → is_entry v ≡ true → (reads (find ds k) next ≡ record { outcome = Err y; log = there } → answer_over below (searches ds k lead (fail Undefined)) s next ≡ record { act = act.Fail y; state = s; log = there })
          → reads (entry_then (found_or (find ds k) found) v) next ≡ record { outcome = Err y; log = there } → answer_over below (found_in v lead (searches ds k lead (fail Undefined))) s next ≡ record { act = act.Fail y; state = s; log = there }
      go (value.Object x) h r e = absurd (not_err (outcome e))
      go value.Absent h r e = r e
      go (value.Byte b) h r e = absurd (true≢false (sym h))
      go (value.Access x) h r e = absurd (true≢false (sym h))
      go (value.Keys ks) h r e = absurd (true≢false (sym h))
      go (value.Rand m) h r e = absurd (true≢false (sym h))
      go (value.Paper p) h r e = absurd (true≢false (sym h))

module _ (P : Program) (s : State) (k : Key) (log there : Log) where
  pub name_found : (y : Object) → reads (find s.regs.dicts k) log ≡ record { outcome = Ok y; log = there }
      → answer (searches s.regs.dicts k (λ y. runs_value P y s) (fail Undefined)) s log ≡ answer (runs_value P y s) s there
  name_found y e = leads s.frames s k (λ y. runs_value P y s) s.regs.dicts (fail Undefined) log there y e

  pub name_missed : (y : ErrorName) → reads (find s.regs.dicts k) log ≡ record { outcome = Err y; log = there }
      → answer (searches s.regs.dicts k (λ y. runs_value P y s) (fail Undefined)) s log ≡ record { act = act.Fail y; state = s; log = there }
  name_missed y e = misses s.frames s k (λ y. runs_value P y s) s.regs.dicts log there y e

-- looks leave the view
view_of : {A : Type 0} (t : Application A) (log : Log) → (reads t log).log.view ≡ log.view
view_of (done ws x) log = refl
view_of (restores r ws x) log = refl
view_of (fail e) log = refl
view_of (look l f) log = view_of (f (value_at log.view l)) (looked_in log l)
view_of (ask c f) log = view_of (f (shape_of log.view c)) log

pub view_kept : {A : Type 0} (t : Application A) (log there : Log) (r : Result A ErrorName) → reads t log ≡ record { outcome = r; log = there } → there.view ≡ log.view
view_kept {A = A} t log there r e = sym (ap (λ (p : Reading A). p.log.view) e) ∙ view_of t log

-- ---- what a name leads to

module _ (P : Program) (k : Key) (b : Access) (s : State) (log there : Log) where
  pub name_led : (y : Object) (a : Act) (u : State) (last : Log) → reads (find s.regs.dicts k) log ≡ record { outcome = Ok y; log = there } → Runs (runs_value P y) s there (Ok a) u last
      → led P (name_object k b) (name_answer P k s log) ≡ settled P (name_object k b) a u last []
  name_led y a u last e h = ap (led P (name_object k b)) (name_found P s k log there y e ∙ h)

  pub name_lost : (e : ErrorName) → reads (find s.regs.dicts k) log ≡ record { outcome = Err e; log = there }
      → led P (name_object k b) (name_answer P k s log) ≡ came (raised e (name_object k b) s) there []
  name_lost e h = ap (led P (name_object k b)) (name_missed P s k log there e h)

-- ---- what was found fits

module _ (W : World) (M : Memory) (sound : SoundMemory W M) (k : Key) (there : Log) (y : Object) where
  fits : (ds : List Cell) → AllByRecursion (IsDict W.shapes) ds → (t : Option Track) → reads (find ds k) (record { view = M; track = t }) ≡ record { outcome = Ok y; log = there } → FitsObject W.shapes y
  fits [] h t e = absurd (not_ok (outcome e))
  fits (d ∷ ds) h t e = go (value_at M (loc.Entry d k)) (answered W M sound (loc.Entry d k) h.0) (fits ds h.1 (looked_in (record { view = M; track = t }) (loc.Entry d k)).track) e
    where
      next : Log
      next = looked_in (record { view = M; track = t }) (loc.Entry d k)

      go : (v : Value) → IsAnswer W (loc.Entry d k) v → (reads (find ds k) next ≡ record { outcome = Ok y; log = there } → FitsObject W.shapes y)
          → reads (entry_then (found_or (find ds k) found) v) next ≡ record { outcome = Ok y; log = there } → FitsObject W.shapes y
      go (value.Object x) a r e = subst (FitsObject W.shapes) (ok_same (outcome e)) a.1
      go value.Absent a r e = r e
      go (value.Byte b) a r e = absurd (not_ok (outcome e))
      go (value.Access x) a r e = absurd (not_ok (outcome e))
      go (value.Keys ks) a r e = absurd (not_ok (outcome e))
      go (value.Rand m) a r e = absurd (not_ok (outcome e))
      go (value.Paper p) a r e = absurd (not_ok (outcome e))

pub dicts_here : (text : List ℕ) (s : State) (M : Memory) → IsReady 1 text s M → are_dicts M s.regs.dicts ≡ true
dicts_here text s M r = dicts_stand s M (ready_in text s M r).ready

pub viewed_ready : (text : List ℕ) (s : State) (log there : Log) → there.view ≡ log.view → IsReady 1 text s log.view → IsReady 1 text s there.view
viewed_ready text s log there e r = subst (IsReady 1 text s) (sym e) r

pub found_here : (text : List ℕ) (s : State) (k : Key) (log there : Log) (y : Object) → there.view ≡ log.view → IsReady 1 text s log.view → reads (find s.regs.dicts k) log ≡ record { outcome = Ok y; log = there } → FitsHere there.view y
found_here text s k log there y e r h = subst (λ M. FitsHere M y) (sym e) (fits (world_of s.section log.view) log.view r.memory k there y s.regs.dicts r.fits.state.registers.dicts log.track h)
