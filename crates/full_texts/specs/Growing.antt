-- Messages that grow piece by piece, up to what a section may still say.
use Rattle.std.specs.Prelude.{◌≡◌, ℕ, List, length, Result, Ok, Err, ⊤}
use Rattle.ps_names.specs.declared.error_name.ErrorName.{ErrorName}
use Rattle.ps_objects.specs.declared.refusal.Refusal.{Refusal}
use Rattle.ps_objects.specs.declared.refusal.Refusal.TheVariants as refusal
use Rattle.ps_kinds.specs.declared.state.State.{State}
use Rattle.ps_memory.specs.Tree.{Application}
use Rattle.ps_meaning.specs.Answer.{Log}
use Rattle.ps_operator.specs.Budgets.{message_room}
use Rattle.ps_operator.specs.Tree.{read, reads, found}

-- a value, where there was room
abbrev pub if_room : {A : Type 0} → Result (Unit {0}) ErrorName → A → Result A ErrorName
if_room (Err e) x = Err e
if_room (Ok _) x = Ok x

-- the text, where the section may still say so much
abbrev pub allowed : State → List ℕ → Result (List ℕ) ErrorName
allowed s text = if_room (message_room s.kind s.said (length text)) text

-- how a text goes on
abbrev pub Growth : Type 0
Growth = List ℕ → Application (List ℕ)

-- a text that has all its pieces
abbrev pub whole : State → Growth
whole s text = read (allowed s text) (λ t. found t)

-- a function made a text of what was read
abbrev pub Makes : Result (List ℕ) ErrorName → Result (Unit {0}) Refusal → List ℕ → Type 0
Makes r (Ok u) text = r ≡ Ok text
Makes r (Err (refusal.Error e)) text = r ≡ Err e
Makes r (Err refusal.NoMemory) text = ⊤

-- a function that looks made the text that the tree finds
abbrev pub Grows : Application (List ℕ) → Log → Result (Unit {0}) Refusal → List ℕ → Log → Type 0
Grows t old (Ok u) text log = reads t old ≡ record { outcome = Ok text; log = log }
Grows t old (Err (refusal.Error e)) text log = reads t old ≡ record { outcome = Err e; log = log }
Grows t old (Err refusal.NoMemory) text log = ⊤
