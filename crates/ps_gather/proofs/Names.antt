-- Names that are looked up while an object is read.
use Rattle.std.proofs.Common.{true, true≢false, ◌≡◌, ℕ, List, [], ◌∷◌, Option, Some, Result, Ok, Err, refl, sym, ap, ◌∙◌}
use Rattle.ps_objects.specs.declared.cell.Cell.{Cell}
use Rattle.ps_names.specs.declared.error_name.ErrorName.{ErrorName}
use Rattle.ps_names.specs.declared.error_name.ErrorName.TheVariants.{Undefined}
use Rattle.ps_objects.specs.declared.key.Key.TheVariants as key
use Rattle.ps_objects.specs.declared.key.Key.{Key}
use Rattle.ps_objects.specs.declared.object.Object.{Object}
use Rattle.ps_objects.specs.declared.place.Loc.TheVariants as loc
use Rattle.ps_objects.specs.declared.place.Value.{Value}
use Rattle.ps_objects.specs.declared.place.Value.TheVariants as value
use Rattle.ps_kinds.specs.declared.state.State.{State}
use Rattle.ps_memory.specs.Memory.{value_at, shape_of}
use Rattle.ps_memory.specs.Tree.{Application, done, restores, fail, look, ask}
use Rattle.ps_meaning.specs.Answer.{Log, looked_in}
use Rattle.ps_operator.specs.Keys.{find, found_or}
use Rattle.ps_operator.specs.Looks.{entry_then}
use Rattle.ps_operator.specs.Standing.{is_entry}
use Rattle.ps_operator.specs.Tree.{Reading, found}
use Rattle.ps_operator.specs.Tree as operator
use Rattle.ps_operator.proofs.Looked.{entry_found}
use Rattle.ps_execution.specs.Gather as meaning
use Rattle.ps_execution.specs.Gather.{Scanned, scanned, bad}
use Rattle.ps_execution.specs.Objects.{found_in, searches}
use Rattle.ps_gather.specs.Ended.{ended, Leads}
use Rattle.ps_gather.specs.Gathered.{told, Is, Goes}
use Rattle.ps_gather.specs.declared.gathering.Gathering.{Gathering}
use Rattle.ps_gather.specs.declared.spelt.Spelt.{Spelt}
use Rattle.ps_gather.specs.declared.spelt.Spelt.TheVariants as spelt
use Rattle.ps_scan.specs.declared.tokens.Token.TheVariants as token

abbrev Same : Result Object ErrorName → Result Object ErrorName → Type 0
Same p q = p ≡ q

ok_same : {x y : Object} → Same (Ok x) (Ok y) → x ≡ y
ok_same e = cc

not_ok : {x : ErrorName} {y : Object} → Same (Err x) (Ok y) → ⊥
not_ok e = cc

not_err : {x : Object} {y : ErrorName} → Same (Ok x) (Err y) → ⊥
not_err e = cc

abbrev outcome : {p q : Reading Object} → p ≡ q → Same p.outcome q.outcome
outcome e = ap (λ (r : Reading Object). r.outcome) e

abbrev log_of : {p q : Reading Object} → p ≡ q → p.log ≡ q.log
log_of e = ap (λ (r : Reading Object). r.log) e

module _ (k : Key) (lead : Object → Application Scanned) (missing : Application Scanned) where
  pub leads : (ds : List Cell) (log there : Log) (y : Object) → operator.reads (find ds k) log ≡ record { outcome = Ok y; log = there } → Leads (searches ds k lead missing) log (lead y) there
  leads [] log there y e = absurd (not_ok (outcome e))
  leads (d ∷ ds) log there y e = go (value_at log.view (loc.Entry d k)) (λ f. leads ds (looked_in log (loc.Entry d k)) there y f) e
    where
      go : (v : Value) → (operator.reads (find ds k) (looked_in log (loc.Entry d k)) ≡ record { outcome = Ok y; log = there } → ended (searches ds k lead missing) (looked_in log (loc.Entry d k)) ≡ ended (lead y) there)
          → operator.reads (entry_then (found_or (find ds k) found) v) (looked_in log (loc.Entry d k)) ≡ record { outcome = Ok y; log = there }
          → ended (found_in v lead (searches ds k lead missing)) (looked_in log (loc.Entry d k)) ≡ ended (lead y) there
      go (value.Object x) r e = ap (λ z. ended (lead z) (looked_in log (loc.Entry d k))) (ok_same (outcome e)) ∙ ap (λ l. ended (lead y) l) (log_of e)
      go value.Absent r e = r e
      go (value.Byte b) r e = absurd (not_ok (outcome e))
      go (value.Access x) r e = absurd (not_ok (outcome e))
      go (value.Keys ks) r e = absurd (not_ok (outcome e))
      go (value.Rand m) r e = absurd (not_ok (outcome e))
      go (value.Paper p) r e = absurd (not_ok (outcome e))

  pub misses : (ds : List Cell) (log there : Log) (y : ErrorName) → operator.reads (find ds k) log ≡ record { outcome = Err y; log = there } → Leads (searches ds k lead missing) log missing there
  misses [] log there y e = ap (λ l. ended missing l) (log_of e)
  misses (d ∷ ds) log there y e = go (value_at log.view (loc.Entry d k)) (entry_found log.view d k (value_at log.view (loc.Entry d k)) refl) (λ f. misses ds (looked_in log (loc.Entry d k)) there y f) e
    where
      go : (v : Value) → is_entry v ≡ true → (operator.reads (find ds k) (looked_in log (loc.Entry d k)) ≡ record { outcome = Err y; log = there } → ended (searches ds k lead missing) (looked_in log (loc.Entry d k)) ≡ ended missing there)
          → operator.reads (entry_then (found_or (find ds k) found) v) (looked_in log (loc.Entry d k)) ≡ record { outcome = Err y; log = there }
          → ended (found_in v lead (searches ds k lead missing)) (looked_in log (loc.Entry d k)) ≡ ended missing there
      go (value.Object x) h r e = absurd (not_err (outcome e))
      go value.Absent h r e = r e
      go (value.Byte b) h r e = absurd (true≢false (sym h))
      go (value.Access x) h r e = absurd (true≢false (sym h))
      go (value.Keys ks) h r e = absurd (true≢false (sym h))
      go (value.Rand m) h r e = absurd (true≢false (sym h))
      go (value.Paper p) h r e = absurd (true≢false (sym h))

-- looks leave the view
view_of : {A : Type 0} (t : Application A) (log : Log) → (operator.reads t log).log.view ≡ log.view
view_of (done ws x) log = refl
view_of (restores r ws x) log = refl
view_of (fail e) log = refl
view_of (look l f) log = view_of (f (value_at log.view l)) (looked_in log l)
view_of (ask c f) log = view_of (f (shape_of log.view c)) log

pub missed_view : (ds : List Cell) (k : Key) (log there : Log) (y : ErrorName) → operator.reads (find ds k) log ≡ record { outcome = Err y; log = there } → there.view ≡ log.view
missed_view ds k log there y e = sym (ap (λ (p : Reading Object). p.log.view) e) ∙ view_of (find ds k) log

module _ (s : State) (name : List ℕ) (g : Gathering) (log there : Log) where
  pub value_goes : (y : Object) (r : Option Spelt) (new : Gathering) → operator.reads (find s.regs.dicts (key.Name name)) log ≡ record { outcome = Ok y; log = there }
      → Is (λ k place. meaning.complete_value k s y place (told s g)) s r new → Goes (λ k place. meaning.gather_token k s (token.Now name) place (told s g)) s log r new there
  value_goes y r new e i k place =
      leads (key.Name name) (λ x. meaning.complete_value k s x place (told s g)) (scanned (bad Undefined) place (told s g)) s.regs.dicts log there y e
      ∙ ap (λ t. ended t there) (i k place)

  pub missed_goes : (y : ErrorName) → operator.reads (find s.regs.dicts (key.Name name)) log ≡ record { outcome = Err y; log = there }
      → Goes (λ k place. meaning.gather_token k s (token.Now name) place (told s g)) s log (Some (spelt.Bad Undefined)) g there
  missed_goes y e k place = misses (key.Name name) (λ x. meaning.complete_value k s x place (told s g)) (scanned (bad Undefined) place (told s g)) s.regs.dicts log there y e
