-- Whole runs of a desk's calls, with the pieces that went in and came out.
use Rattle.std.specs.Prelude.{◌≡◌, ℕ, List, [], ◌∷◌, ◌++◌, ◌==◌, if◌then◌else◌, Option, Some, None, ⊤}
use Rattle.commit_desk.specs.declared.event.Event.{Event}
use Rattle.commit_desk.specs.declared.event.Event.TheVariants.{Claimed, Finished, Taken, Committed}
use Rattle.commit_desk.specs.declared.desk.Desk.{Desk}
use Rattle.commit_desk.specs.Desk.{state_of, piece_on}

-- a call that had an effect: a page claimed, a piece laid down for a page, a piece taken, so many pages committed
pub data Call (C : Type 0) : Type 0 where
  claim : ℕ → Call C
  finish : ℕ → C → Call C
  take : ℕ → C → Call C
  done : ℕ → Call C

-- what the call adds to the history
abbrev pub event_of : {C : Type 0} → Call C → Event
event_of (claim page) = Claimed page
event_of (finish page piece) = Finished page
event_of (take page piece) = Taken page
event_of (done count) = Committed count

-- the history after these calls, of which the last comes first
abbrev pub history_after : {C : Type 0} → List (Call C) → List Event
history_after [] = []
history_after (call ∷ earlier) = history_after earlier ++ event_of call ∷ []

-- the piece that lies there for a page after these calls, of which the last comes first
abbrev pub piece_after : {C : Type 0} → List (Call C) → ℕ → Option C
piece_after [] page = None
piece_after (claim p ∷ earlier) page = piece_after earlier page
piece_after (finish p piece ∷ earlier) page = if (page == p) then Some piece else piece_after earlier page
piece_after (take p piece ∷ earlier) page = if (page == p) then None else piece_after earlier page
piece_after (done count ∷ earlier) page = piece_after earlier page

-- each piece that was taken lay there
abbrev pub TakesWhatLies : {C : Type 0} → List (Call C) → Type 0
TakesWhatLies [] = ⊤
TakesWhatLies (claim page ∷ earlier) = TakesWhatLies earlier
TakesWhatLies (finish page piece ∷ earlier) = TakesWhatLies earlier
TakesWhatLies (take page piece ∷ earlier) = (piece_after earlier page ≡ Some piece) × TakesWhatLies earlier
TakesWhatLies (done count ∷ earlier) = TakesWhatLies earlier

-- the desk is what these calls, of which the last comes first, made of a new one
pub record IsMadeBy {C : Type 0} (calls : List (Call C)) (desk : Desk C) : Type 0 where
  pub history : (state_of desk).history ≡ history_after calls
  pub pieces : (page : ℕ) → piece_on desk page ≡ piece_after calls page
  pub takings : TakesWhatLies calls
