-- What a slot says of its page.
use Rattle.std.specs.Prelude.{◌≡◌, ℕ, Bool, true, false, not, ◌&&◌, List, Option, Some, None, is_some, nat_le, nat_lt, slice_index_or}
use Rattle.commit_desk.specs.declared.event.Event.{Event}
use Rattle.commit_desk.specs.declared.event.Event.TheVariants.{Claimed, Finished, Taken}
use Rattle.commit_desk.specs.History.{has}
use Rattle.commit_desk.specs.declared.slot.Slot.{Slot}
use Rattle.commit_desk.specs.declared.slot.Slot.TheVariants.{Vacant, Filled, Emptied}

-- whether the page was finished
abbrev pub is_finished : {C : Type 0} → Slot C → Bool
is_finished Vacant = false
is_finished (Filled piece) = true
is_finished Emptied = true

-- whether the page's piece was taken
abbrev pub is_emptied : {C : Type 0} → Slot C → Bool
is_emptied Vacant = false
is_emptied (Filled piece) = false
is_emptied Emptied = true

-- the piece that lies in the slot
abbrev pub piece_in : {C : Type 0} → Slot C → Option C
piece_in Vacant = None
piece_in (Filled piece) = Some piece
piece_in Emptied = None

-- how many events of the history the slot accounts for: the page's finish and its taking
abbrev pub event_count : {C : Type 0} → Slot C → ℕ
event_count Vacant = 0
event_count (Filled piece) = 1
event_count Emptied = 2

-- what slots say of each page's finish
abbrev pub TellFinished : {C : Type 0} → List (Slot C) → List Event → Type 0
TellFinished slots history = (page : ℕ) → has history (Finished page) ≡ is_finished (slice_index_or slots page Vacant)

-- what slots say of each page's taking
abbrev pub TellTaken : {C : Type 0} → List (Slot C) → List Event → Type 0
TellTaken slots history = (page : ℕ) → has history (Taken page) ≡ is_emptied (slice_index_or slots page Vacant)

-- a piece lies for each page that was finished and not taken, and for no other
abbrev pub HoldPieces : {C : Type 0} → List (Slot C) → List Event → Type 0
HoldPieces slots history = (page : ℕ) → is_some (piece_in (slice_index_or slots page Vacant)) ≡ (has history (Finished page) && not (has history (Taken page)))

-- the claimed pages are those up to a number
abbrev pub ClaimedUpTo : ℕ → List Event → Type 0
ClaimedUpTo claimed history = (page : ℕ) → has history (Claimed page) ≡ (nat_lt 0 page && nat_le page claimed)
