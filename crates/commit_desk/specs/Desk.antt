-- What callers see of a desk, and how its calls change that.
use Rattle.std.specs.Prelude.{◌≡◌, ℕ, List, [], ◌∷◌, ◌==◌, if◌then◌else◌, Option, Some, None, slice_index_or}
use Rattle.commit_desk.specs.declared.event.Event.{Event}
use Rattle.commit_desk.specs.declared.event.Event.TheVariants.{Finished, Taken}
use Rattle.commit_desk.specs.declared.slot.Slot.TheVariants.{Vacant}
use Rattle.commit_desk.specs.declared.desk.Desk.{Desk}
use Rattle.commit_desk.specs.State.{DeskState, after}
use Rattle.commit_desk.specs.Slots.{piece_in}

-- what callers see of a desk: its numbers and its history
abbrev pub state_of : {C : Type 0} → Desk C → DeskState
state_of desk = record { pages = desk.pages; ahead = desk.ahead; stopped = desk.stopped; history = desk.history.items }

-- the piece that lies on the desk for a page
abbrev pub piece_on : {C : Type 0} → Desk C → ℕ → Option C
piece_on desk page = piece_in (slice_index_or desk.slots.items page Vacant)

-- the same pieces lie on both
abbrev pub SamePieces : {C : Type 0} → Desk C → Desk C → Type 0
SamePieces old new = (page : ℕ) → piece_on new page ≡ piece_on old page

-- these events are added, and no piece is laid down or taken
abbrev pub Adds : {C : Type 0} → Desk C → Desk C → List Event → Type 0
Adds old new events = (state_of new ≡ after (state_of old) events) × SamePieces old new

-- state and pieces stay
abbrev pub Unchanged : {C : Type 0} → Desk C → Desk C → Type 0
Unchanged old new = (state_of new ≡ state_of old) × SamePieces old new

-- the piece is laid down for the page, and the other pages' pieces stay
abbrev pub LaysDown : {C : Type 0} → Desk C → Desk C → ℕ → C → Type 0
LaysDown old new page piece =
    (state_of new ≡ after (state_of old) (Finished page ∷ [])) × ((p : ℕ) → piece_on new p ≡ (if (p == page) then Some piece else piece_on old p))

-- the page's piece is taken, and the other pages' pieces stay
abbrev pub TakesAway : {C : Type 0} → Desk C → Desk C → ℕ → Type 0
TakesAway old new page =
    (state_of new ≡ after (state_of old) (Taken page ∷ [])) × ((p : ℕ) → piece_on new p ≡ (if (p == page) then None else piece_on old p))
