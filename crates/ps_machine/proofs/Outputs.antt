-- The outputs of runs.
use Rattle.std.specs.Bool.{⊤}
use Rattle.std.proofs.Common.{◌≡◌, List, [], ◌∷◌, ◌++◌, Option, Some, None, refl, sym, ap, ◌∙◌, subst, append-nil}
use Rattle.ps_objects.specs.declared.cell.SaveName.{SaveName}
use Rattle.ps_memory.specs.Memory.{Memory, value_at, shape_of, Output, store, fresh, save, restore, tell, perform}
use Rattle.ps_memory.specs.Tree.{Tree, ends, looks, acts, asks, ◌>>=◌, result, after}
use Rattle.ps_meaning.specs.Answer.{Log}
use Rattle.ps_execution.specs.Reached.{Reached, came, outer, reached, outer_for, reached_as}
use Rattle.ps_execution.proofs.Reached.{reached_law}
use Rattle.ps_machine.specs.Runs.{told, given}

-- a run's outputs, and then those of what it goes on with
pub told_bind : {A B : Type 0} (t : Tree A) (k : A → Tree B) (M : Memory) → told (t >>= k) M ≡ told t M ++ told (k (result t M)) (after t M)
told_bind (ends a) k M = refl
told_bind (looks l f) k M = told_bind (f (value_at M l)) k M
told_bind (acts (store l v) t) k M = told_bind t k (perform (store l v) M)
told_bind (acts (fresh c sh) t) k M = told_bind t k (perform (fresh c sh) M)
told_bind (acts (save s) t) k M = told_bind t k (perform (save s) M)
told_bind (acts (restore s) t) k M = told_bind t k (perform (restore s) M)
told_bind (acts (tell o) t) k M = ap (λ os. o ∷ os) (told_bind t k M)
told_bind (asks c f) k M = told_bind (f (shape_of M c)) k M

-- after other outputs
abbrev pub shifted : {A : Type 0} → List Output → Reached A → Reached A
shifted out (came a log os) = came a log (out ++ os)
shifted out (outer q) = outer q

pub shift : {A : Type 0} (t : Tree A) (log : Log) (out : List Output) → reached t log out ≡ shifted out (reached t log [])
shift {A = A} t log out = reached_law A t log.view log.track out ∙ go (outer_for t log.view log.track) ∙ ap (shifted out) (sym (reached_law A t log.view log.track []))
  where
    go : (q : Option SaveName) → reached_as t log.view log.track out q ≡ shifted out (reached_as t log.view log.track [] q)
    go None = refl
    go (Some q) = refl

-- a run that came to its end has its result, its memory and its outputs
pub record Is {A : Type 0} (t : Tree A) (log : Log) (a : A) (there : Log) (out : List Output) : Type 0 where
  pub ended : result t log.view ≡ a
  pub memory : after t log.view ≡ there.view
  pub outputs : told t log.view ≡ out

abbrev IsCame : {A : Type 0} → Tree A → Log → Reached A → Type 0
IsCame t log (came a there out) = Is t log a there out
IsCame t log (outer q) = ⊤

pub came_is : {A : Type 0} (t : Tree A) (log there : Log) (a : A) (out : List Output) → reached t log [] ≡ came a there out → Is t log a there out
came_is {A = A} t log there a out e = subst (IsCame t log) e (subst (IsCame t log) (sym (reached_law A t log.view log.track [])) (go (outer_for t log.view log.track)))
  where
    go : (q : Option SaveName) → IsCame t log (reached_as t log.view log.track [] q)
    go None = record { ended = refl; memory = refl; outputs = refl }
    go (Some q) = tt
