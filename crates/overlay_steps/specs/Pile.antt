-- Steps with what each hides.
use Rattle.std.specs.Prelude.{◌≡◌, ℕ, cond, List, [], ◌∷◌, Option, Some, None, MatchOption, map, length, nat_eq, slice_get, slice_set, ⊤}
use Rattle.ps_objects.specs.declared.place.Value.{Value}
use Rattle.ps_memory.specs.Memory.{spot_of, Action, store, fresh, save}
use Rattle.overlay_steps.specs.declared.pile.Note.{Note}
use Rattle.overlay_steps.specs.declared.pile.Note.TheVariants.{Fresh, Put, Save}
use Rattle.overlay_steps.specs.declared.pile.Step.{Step}
use Rattle.overlay_steps.specs.Newest.{newest, value_of}

-- what a note does
abbrev pub action_of : Note → Action
action_of (Fresh c sh) = fresh c sh
action_of (Put l v) = store l v
action_of (Save s) = save s

-- what the steps do, the newest first
abbrev pub acts : List Step → List Action
acts = map (λ x. action_of x.note)

-- the newest action comes off and the others stay; of none there is none
abbrev pub TakesNewest : List Action → List Action → Option Note → Type 0
TakesNewest old new taken = MatchOption taken ((old ≡ []) × (new ≡ [])) (λ x. old ≡ action_of x ∷ new)

-- a step with the place of the store that it hides
abbrev pub step_over : Note → Option ℕ → Step
step_over x u = record { note = x; under = u }

-- a store with another value; any other note stays
abbrev pub with_value : Value → Note → Note
with_value v (Put l w) = Put l v
with_value v w = w

-- a step with another value
abbrev pub revalued_step : Value → Step → Step
revalued_step v x = record { note = with_value v x.note; under = x.under }

-- the same in a list with the oldest first
abbrev pub put_in : ℕ → Value → List Step → List Step
put_in i v xs = elim (slice_get xs i) as (λ _. List Step) [ None ↦ xs | Some x ↦ slice_set xs i (revalued_step v x) ]

-- another value in the step over i others
abbrev pub with_value_at : ℕ → Value → List Step → List Step
with_value_at i v [] = []
with_value_at i v (x ∷ xs) = cond (nat_eq i (length xs)) (revalued_step v x ∷ xs) (x ∷ with_value_at i v xs)

-- how many writes stand below the newest store that a store hides
abbrev pub hidden : Action → List Action → Option ℕ
hidden (store l v) ws = newest (spot_of l) ws
hidden _ ws = None

-- each step tells the newest store at its place below it
abbrev pub TellHidden : List Step → Type 0
TellHidden [] = ⊤
TellHidden (x ∷ xs) = (x.under ≡ hidden (action_of x.note) (acts xs)) × TellHidden xs

-- the value that a step stores, if it is there and stores one
abbrev pub step_value : Option Step → Option Value
step_value None = None
step_value (Some x) = value_of (action_of x.note)
