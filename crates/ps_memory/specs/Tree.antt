-- What an application and a run do, as trees of looks and actions. A memory enters a tree by its answers alone.
use Rattle.std.specs.Prelude.{ℕ, List, [], ◌∷◌, Result, Ok, Err}
use Rattle.ps_shapes.specs.Sheet.{Sheet}
use Rattle.ps_objects.specs.declared.cell.Cell.{Cell}
use Rattle.ps_objects.specs.declared.cell.SaveName.{SaveName}
use Rattle.ps_names.specs.declared.error_name.ErrorName.{ErrorName}
use Rattle.ps_objects.specs.declared.key.Key.{Key}
use Rattle.ps_objects.specs.declared.place.Loc.{Loc}
use Rattle.ps_objects.specs.declared.place.Loc.TheVariants as loc
use Rattle.ps_objects.specs.declared.place.Value.{Value}
use Rattle.ps_objects.specs.declared.place.Value.TheVariants as value
use Rattle.ps_objects.specs.declared.place.Shape.{Shape}
use Rattle.ps_memory.specs.Memory.{Memory, value_at, shape_of, blank, Output, Action, store, fresh, save, restore, tell, perform}

-- what an application does to memory at its end; a store of the absent value at an entry takes it away
pub data Change : Type 0 where
  puts : Loc → Value → Change
  makes : Cell → Shape → Change
  opens : SaveName → Change

-- a change as an action
abbrev pub action_of : Change → Action
action_of (puts l v) = store l v
action_of (makes c sh) = fresh c sh
action_of (opens s) = save s

-- the entry of a key is taken away
abbrev pub removes : Cell → Key → Change
removes d k = puts (loc.Entry d k) value.Absent

-- paper is laid where it was taken
abbrev pub lays : Sheet → Change
lays p = puts loc.Paper (value.Paper p)

-- blank paper of a size in pixels is laid
abbrev pub wipes : ℕ → ℕ → Change
wipes width height = lays (blank width height)

-- One application of an operator, a name or a step. Its changes stand at its end, so that an error changes nothing.
-- A restore has an end of its own, before any changes, since memory may refuse it.
pub data Application (A : Type 0) : Type 0 where
  done : List Change → A → Application A
  restores : SaveName → List Change → A → Application A
  fail : ErrorName → Application A
  look : Loc → (Value → Application A) → Application A
  ask : Cell → (Shape → Application A) → Application A

-- A whole run. To ask for the shape of a cell is no look, since a cell never changes its shape.
pub data Tree (A : Type 0) : Type 0 where
  ends : A → Tree A
  looks : Loc → (Value → Tree A) → Tree A
  acts : Action → Tree A → Tree A
  asks : Cell → (Shape → Tree A) → Tree A

infixl 30 ◌>>=◌
-- a run that goes on from where another ends
abbrev pub ◌>>=◌ : {A B : Type 0} → Tree A → (A → Tree B) → Tree B
◌>>=◌ (ends a) k = k a
◌>>=◌ (looks l f) k = looks l (λ v. f v >>= k)
◌>>=◌ (acts w t) k = acts w (t >>= k)
◌>>=◌ (asks c f) k = asks c (λ s. f s >>= k)

-- changes are done, in order, before a run
abbrev pub changes : {A : Type 0} → List Change → Tree A → Tree A
changes [] t = t
changes (w ∷ ws) t = acts (action_of w) (changes ws t)

-- an application in a run
abbrev pub applied : {A : Type 0} → Application A → Tree (Result A ErrorName)
applied (done ws a) = changes ws (ends (Ok a))
applied (restores s ws a) = acts (restore s) (changes ws (ends (Ok a)))
applied (fail e) = ends (Err e)
applied (look l f) = looks l (λ v. applied (f v))
applied (ask c f) = asks c (λ s. applied (f s))

-- what a trail holds: a look, or an action
pub data Step : Type 0 where
  looked_at : Loc → Step
  did : Action → Step

-- the result of a run from a memory
abbrev pub result : {A : Type 0} → Tree A → Memory → A
result (ends a) M = a
result (looks l f) M = result (f (value_at M l)) M
result (acts w t) M = result t (perform w M)
result (asks c f) M = result (f (shape_of M c)) M

-- the memory after it
abbrev pub after : {A : Type 0} → Tree A → Memory → Memory
after (ends a) M = M
after (looks l f) M = after (f (value_at M l)) M
after (acts w t) M = after t (perform w M)
after (asks c f) M = after (f (shape_of M c)) M

-- its trail: its looks and actions in order
abbrev pub trail : {A : Type 0} → Tree A → Memory → List Step
trail (ends a) M = []
trail (looks l f) M = looked_at l ∷ trail (f (value_at M l)) M
trail (acts w t) M = did w ∷ trail t (perform w M)
trail (asks c f) M = trail (f (shape_of M c)) M

-- a memory after the actions of a trail
abbrev pub play : List Step → Memory → Memory
play [] M = M
play (looked_at l ∷ steps) M = play steps M
play (did w ∷ steps) M = play steps (perform w M)

-- the pages and messages that a trail gave out
abbrev pub told_by : List Step → List Output
told_by [] = []
told_by (looked_at l ∷ steps) = told_by steps
told_by (did (tell o) ∷ steps) = o ∷ told_by steps
told_by (did w ∷ steps) = told_by steps
