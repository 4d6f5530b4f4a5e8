-- The state of a desk, and the answers that follow from it.
use Rattle.std.specs.Prelude.{ℕ, ◌+◌, List, [], ◌∷◌, ◌++◌, Bool, false, not, ◌&&◌, ◌||◌, nat_le, nat_lt, if◌then◌else◌}
use Rattle.commit_desk.specs.declared.event.Event.{Event}
use Rattle.commit_desk.specs.declared.event.Event.TheVariants.{Claimed, Finished, Taken, Committed}
use Rattle.commit_desk.specs.declared.event.Claim.{Claim}
use Rattle.commit_desk.specs.declared.event.Claim.TheVariants.{Page, Over, Full}
use Rattle.commit_desk.specs.History.{has, claimed_count, committed_count}

-- how many pages there are, how many may be claimed past the committed ones, whether claims are ended, and what happened
pub record DeskState : Type 0 where
  pub pages : ℕ
  pub ahead : ℕ
  pub stopped : Bool
  pub history : List Event

-- before anything happened
abbrev pub initial_state : ℕ → ℕ → DeskState
initial_state pages ahead = record { pages = pages; ahead = ahead; stopped = false; history = [] }

-- after these events
abbrev pub after : DeskState → List Event → DeskState
after state events = record state { history = state.history ++ events }

-- the answer to a claim: over where the desk is stopped or all pages are claimed, and else full where the claimed pages are
-- as far past the committed ones as they may be
abbrev pub claim_answer : DeskState → Claim
claim_answer state =
    let claimed = claimed_count state.history in
    let limit = committed_count state.history + state.ahead in
    if (state.stopped || nat_le state.pages claimed) then Over else if (nat_le limit claimed) then Full else Page (claimed + 1)

-- what a claim adds to the history
abbrev pub claim_events : Claim → List Event
claim_events (Page page) = Claimed page ∷ []
claim_events Over = []
claim_events Full = []

-- whether a piece for the page is accepted: the page is claimed, and not finished
abbrev pub accepts : DeskState → ℕ → Bool
accepts state page = has state.history (Claimed page) && not (has state.history (Finished page))

-- whether the page's piece lies on the desk: the page is finished, and its piece not taken
abbrev pub is_lying : DeskState → ℕ → Bool
is_lying state page = has state.history (Finished page) && not (has state.history (Taken page))

-- whether so many pages may be told to be committed: the present count or a greater one, and at most the pages claimed
abbrev pub may_commit : DeskState → ℕ → Bool
may_commit state count = nat_le (committed_count state.history) count && nat_le count (claimed_count state.history)

-- what a count of committed pages adds to the history: nothing where it is the present one
abbrev pub commit_events : DeskState → ℕ → List Event
commit_events state count = if (nat_lt (committed_count state.history) count) then (Committed count ∷ []) else []
