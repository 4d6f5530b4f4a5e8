-- One error.
use Rattle.std.proofs.Common.{◌≡◌, ℕ, zero, suc, true, false, List, [], length, refl, sym, ap, ◌∙◌, subst, arith, Result, Ok, Err}
use Rattle.ps_names.specs.ErrorName.{bytes_of}
use Rattle.ps_names.specs.declared.error_name.ErrorName.{ErrorName}
use Rattle.ps_objects.specs.declared.key.Key.TheVariants as key
use Rattle.ps_objects.specs.declared.object.Object.{Object}
use Rattle.ps_objects.specs.declared.place.Loc.{Loc}
use Rattle.ps_objects.specs.declared.place.Value.TheVariants as value
use Rattle.ps_kinds.specs.declared.act.Act.{Act}
use Rattle.ps_kinds.specs.declared.state.State.{State}
use Rattle.std.specs.Prelude.{OnOk}
use Rattle.ps_shapes.specs.Sheet.{Sheet}
use Rattle.ps_memory.specs.Memory.{Memory, Output, here, value_at}
use Rattle.ps_memory.specs.Tree.{Tree, ends, looks, ◌>>=◌}
use Rattle.ps_meaning.specs.Answer.{Log, Answer, looked_in, answer}
use Rattle.ps_meaning.specs.Registers.{world_of}
use Rattle.ps_meaning.specs.Start.{error_dict}
use Rattle.ps_meaning.proofs.Ground.{answered as look_answered}
use Rattle.ps_execution.specs.Budgets.{left, counted, taking}
use Rattle.ps_execution.specs.Execution as execution
use Rattle.ps_execution.specs.Execution.{on, failed, applies}
use Rattle.ps_execution.specs.Machine.{Move, ended, moves, move_entry, move_raise}
use Rattle.ps_execution.specs.Objects.{runs_value, error_entry, entry_in}
use Rattle.ps_execution.specs.Reached.{reached, came, settled}
use Rattle.ps_execution.specs.Table.{Program}
use Rattle.ps_execution.proofs.Objects.{entry_fits}
use Rattle.ps_execution.proofs.Reached.{answered}
use Rattle.ps_execution.proofs.Steps.{failed_fits, error_dict_stands}
use Rattle.ps_meaning.proofs.Memory.{placed}
use Rattle.vm_mem.specs.Conditions.{is_here, page_is_here, MayLook}
use Rattle.vm_mem.proofs.Conditions.{may_look}
use Rattle.ps_steps.specs.Operators.{FitsHere, Executed, CountsTurn}
use Rattle.ps_reader.specs.Reading.{IsReady}
use Rattle.ps_steps.proofs.Turns.{settled_object, turn_ready}

here_so : (M : Memory) (p : Sheet) → M.page ≡ here p → page_is_here M ≡ true
unfolding page_is_here
here_so M p e = subst (λ q. is_here q ≡ true) (sym e) refl

pub page_here : (n : ℕ) (text : List ℕ) (s : State) (M : Memory) → IsReady n text s M → page_is_here M ≡ true
page_here n text s M r = here_so M r.memory.page.0 r.memory.page.1

-- what holds holds of a result
pub if_ok : {A E P : Type 0} (r : Result A E) → P → OnOk r P
if_ok (Ok x) h = h
if_ok (Err e) h = tt

pub if_viewed : {A E : Type 0} (r : Result A E) (M N : Memory) → OnOk r (N ≡ M) → page_is_here M ≡ true → OnOk r (page_is_here N ≡ true)
if_viewed (Ok x) M N e h = subst (λ K. page_is_here K ≡ true) (sym e) h
if_viewed (Err x) M N e h = tt

stands_so : (n : ℕ) (text : List ℕ) (s : State) (M : Memory) (e : ErrorName) → IsReady n text s M → MayLook M (error_entry e)
stands_so n text s M e r = may_look M (error_entry e) (page_here n text s M r) (placed (world_of s.section M) M r.memory (error_entry e) value.Absent (error_dict_stands text (world_of s.section M) r.fits.start) refl)

pub entry_stands : (n : ℕ) (text : List ℕ) (s : State) (M : Memory) (e : ErrorName) (l : Loc) → l ≡ error_entry e → IsReady n text s M → MayLook M l
entry_stands n text s M e l h r = subst (MayLook M) (sym h) (stands_so n text s M e r)

pub raise_ready : (n : ℕ) (text : List ℕ) (s : State) (M : Memory) (x : Object) → IsReady n text s M → FitsHere M x → IsReady n text (failed x s) M
raise_ready n text s M x r h = record { fits = failed_fits text (world_of s.section M) s x r.fits h; memory = r.memory; paid = r.paid }

pub looked_ready : (n : ℕ) (text : List ℕ) (s : State) (log there : Log) (l : Loc) → there ≡ looked_in log l → IsReady n text s log.view → IsReady n text s there.view
looked_ready n text s log there l e r = subst (λ (k : Log). IsReady n text s k.view) (sym e) r

pub entered_ready : (n : ℕ) (text : List ℕ) (s t : State) (x : Object) (log there : Log) (e : ErrorName) → CountsTurn true (failed x s) t → there ≡ looked_in log (error_entry e) → IsReady n text s log.view → FitsHere log.view x → IsReady n text t there.view
entered_ready n text s t x log there e c l r h = looked_ready n text t log there (error_entry e) l (turn_ready n text (failed x s) t log.view c (raise_ready n text s log.view x r h))

pub raise_fits : (text : List ℕ) (s : State) (log there : Log) (e : ErrorName) (m : ℕ) (y : Object) → there ≡ looked_in log (error_entry e) → y ≡ entry_in e m (value_at log.view (error_entry e)) → IsReady 1 text s log.view → FitsHere there.view y
raise_fits text s log there e m y g h r =
    let W = world_of s.section log.view in
    let a = entry_fits W e m error_dict (key.Name (bytes_of e)) (value_at log.view (error_entry e)) (look_answered W log.view r.memory (error_entry e) (error_dict_stands text W r.fits.start)) in
    subst (λ (k : Log). FitsHere k.view y) (sym g) (subst (FitsHere log.view) (sym h) a)

module _ (P : Program) (e : ErrorName) (x : Object) (s : State) (log : Log) (out : List Output) where
  abbrev raise_of : ℕ → Tree Move
  raise_of n = taking n (ends (ended execution.Spent (on [] (failed x s)))) (λ t. looks (error_entry e) (move_entry P e t)) (failed x s)

  spent_at : (n : ℕ) → n ≡ 0 → reached (raise_of n) log out ≡ came (ended execution.Spent (on [] (failed x s))) log out
  spent_at zero h = refl
  spent_at (suc n) h = absurd (omega (arith, h))

  pub raise_spent : (t : State) → CountsTurn false (failed x s) t → reached (move_raise P e x s) log out ≡ came (ended execution.Spent (on [] t)) log out
  raise_spent t h = spent_at (left s) h.0 ∙ ap (λ u. came (ended execution.Spent (on [] u)) log out) (sym h.1)

  pub raise_came : (t u : State) (y z : Object) (a : Act) (looked there : Log) → CountsTurn true (failed x s) t → looked ≡ looked_in log (error_entry e) → y ≡ entry_in e (length t.frames) (value_at log.view (error_entry e))
      → Executed y (answer (runs_value P y t) t looked) (Ok (a, z)) u there → reached (move_raise P e x s) log out ≡ settled P z a u there out
  raise_came t u y z a looked there h l i q =
      go (left s) h.1
      ∙ subst (λ v. reached (move_entry P e v (value_at log.view (error_entry e))) (looked_in log (error_entry e)) out ≡ settled P z a u there out) h.2 entered
    where
      go : (n : ℕ) → n ≡ suc h.0 → reached (raise_of n) log out ≡ reached (move_entry P e (counted (failed x s)) (value_at log.view (error_entry e))) (looked_in log (error_entry e)) out
      go zero g = absurd (omega (arith, g))
      go (suc n) g = refl

      entered : reached (move_entry P e t (value_at log.view (error_entry e))) (looked_in log (error_entry e)) out ≡ settled P z a u there out
      entered =
          subst (λ k. reached (move_entry P e t (value_at log.view (error_entry e))) k out ≡ settled P z a u there out) l
          (subst (λ w. reached (applies t.frames (runs_value P w t) t >>= moves P w) looked out ≡ settled P z a u there out) i
          (answered P y (runs_value P y t) t looked out ∙ ap (λ (r : Answer). settled P y r.act r.state r.log out) q.0 ∙ settled_object P y t looked out z a u there q.1))
