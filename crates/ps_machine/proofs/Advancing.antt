-- One step, and what it leaves to be given out.
use Rattle.std.proofs.Common.{◌≡◌, ℕ, Bool, true, false, List, [], ◌∷◌, ◌++◌, Option, Some, None, option_map, Result, Ok, Err, refl, sym, ap, ◌∙◌, subst, append-nil}
use Rattle.std.specs.Prelude.{OnErr}
use Rattle.ps_shapes.specs.Sheet.{Sheet}
use Rattle.ps_objects.specs.declared.cell.SaveName.{SaveName}
use Rattle.ps_kinds.specs.declared.state.State.{State}
use Rattle.ps_memory.specs.Memory.{Memory, Output, message, tell}
use Rattle.ps_memory.specs.Track.{Track, track_acted}
use Rattle.ps_memory.specs.Tree.{ends}
use Rattle.ps_meaning.specs.Answer.{Log, acted_in}
use Rattle.ps_execution.specs.Execution.{shows}
use Rattle.ps_execution.specs.Machine.{Move, goes}
use Rattle.ps_execution.specs.Reached.{Reached, came, outer, reached}
use Rattle.ps_steps.specs.Next.{giving}
use Rattle.ps_steps.specs.declared.next.Next.TheVariants as next
use Rattle.ps_machine.specs.Runs.{given, shown, Since}
use Rattle.ps_machine.specs.Lines.{papers_of, messages_of, last_after}

-- how an outlet may be since another moment
abbrev Relation : Type 0 → Type 1
Relation O = O → O → List Sheet → List ℕ → Type 0

-- what was given out came
came_given : (r : Reached Move) (m : Move) (log : Log) (os : List Output) → r ≡ came m log os → r ≡ came m log (given r)
came_given r m log os e = e ∙ ap (came m log) (sym (ap given e))

-- an outlet was given just these outputs
gave : {O : Type 0} (R : Relation O) (n o : O) (a b : List Output) → a ≡ b → Since R n o b → Since R n o a
gave R n o a b e p = subst (Since R n o) (sym e) p

-- ---- nothing is given out

module _ (r : Reached Move) (m : Move) (log : Log) (e : r ≡ came m log []) where
  pub came_quiet : r ≡ came m log (given r)
  came_quiet = came_given r m log [] e

  pub since_quiet : {O : Type 0} (R : Relation O) (o : O) → R o o [] [] → Since R o o (given r)
  since_quiet R o p = gave R o o (given r) [] (ap given e) p

  pub last_quiet : (last : Option ℕ) → last ≡ last_after last (messages_of (given r))
  last_quiet last = sym (ap (λ os. last_after last (messages_of os)) (ap given e))

module _ (r : Reached Move) (q : SaveName) (e : r ≡ outer q) where
  pub since_outer : {O : Type 0} (R : Relation O) (o : O) → R o o [] [] → Since R o o (given r)
  since_outer R o p = gave R o o (given r) [] (ap given e) p

  pub last_outer : (last : Option ℕ) → last ≡ last_after last (messages_of (given r))
  last_outer last = sym (ap (λ os. last_after last (messages_of os)) (ap given e))

-- ---- a message

pub told_in : (log : Log) (o : Output) → acted_in log (tell o) ≡ log
told_in log o = ap (λ k. record { view = log.view; track = k }) (go log.track)
  where
    go : (k : Option Track) → option_map (track_acted (tell o)) k ≡ k
    go None = refl
    go (Some k) = refl

module _ (r : Reached Move) (t : List ℕ) (s : State) (log : Log) (e : r ≡ reached (giving (next.Says t) s) log []) where
  said : r ≡ came (goes s) log (message t ∷ [])
  said = e ∙ ap (λ l. came (goes s) l (message t ∷ [])) (told_in log (message t))

  pub came_said : r ≡ came (goes s) log (given r)
  came_said = came_given r (goes s) log (message t ∷ []) said

  pub since_said : {O : Type 0} (R : Relation O) (n o : O) → R n o [] t → Since R n o (given r)
  since_said R n o p = gave R n o (given r) (message t ∷ []) (ap given said) (subst (R n o []) (sym (append-nil t)) p)

  pub last_said : (before after : Option ℕ) → after ≡ last_after before t → after ≡ last_after before (messages_of (given r))
  last_said before after p = p ∙ ap (last_after before) (sym (append-nil t)) ∙ sym (ap (λ os. last_after before (messages_of os)) (ap given said))

-- ---- a page

-- whether the page is wiped or kept, it is given out
given_shown : (wipe : Bool) (s : State) (log : Log) → given (reached (shows wipe s (ends (goes s))) log []) ≡ shown log
given_shown true s log = refl
given_shown false s log = refl

module _ (r : Reached Move) (wipe : Bool) (s : State) (log : Log) (e : r ≡ reached (giving (next.Shows wipe) s) log []) where
  pub came_shown : (there : Log) → reached (shows wipe s (ends (goes s))) log [] ≡ came (goes s) there (shown log) → r ≡ came (goes s) there (given r)
  came_shown there h = came_given r (goes s) there (shown log) (e ∙ h)

  pub since_shown : {O : Type 0} (R : Relation O) (n o : O) → R n o (papers_of (shown log)) [] → Since R n o (given r)
  since_shown R n o p = gave R n o (given r) (shown log) (ap given e ∙ given_shown wipe s log) p

  pub last_shown : (last : Option ℕ) → last ≡ last_after last (messages_of (given r))
  last_shown last = sym (ap (λ os. last_after last (messages_of os)) (ap given e ∙ given_shown wipe s log))

-- ---- a refusal before anything was given out

pub cut_at_once : {O : Type 0} (cut : Relation O) → ((n o : O) (papers more : List Sheet) (text rest : List ℕ) → cut n o papers text → cut n o (papers ++ more) (text ++ rest))
    → (o : O) (papers : List Sheet) (text : List ℕ) → cut o o [] [] → cut o o papers text
cut_at_once cut longer o papers text p = longer o o [] papers [] text p

-- what holds anyway holds after a refusal
pub refused : {A E : Type 0} (r : Result A E) (P : Type 0) → P → OnErr r P
refused (Ok x) P p = tt
refused (Err e) P p = p
