-- Words for what the places promise.
use Rattle.std.specs.Prelude.{◌≡◌, ◌≢◌, ℕ, zero, suc, ◌+◌, ◌<◌, ◌≤◌, Bool, true, false, if◌then◌else◌, sum_by, Option, Some, slice_index_or}
use mathlib.Core.Option.{some}
use lib.ListN.{get_elem?}
use Rattle.atomic_table.specs.Table.{State}
use Rattle.commit_places.specs.declared.view.Stage.{Stage}
use Rattle.commit_places.specs.declared.view.Stage.TheVariants.{Drawn, Begun, Placing}
use Rattle.commit_places.specs.declared.view.Ticket.TheVariants.{Held}
use Rattle.commit_places.specs.declared.view.HandView.{HandView}
use Rattle.commit_places.specs.declared.view.Sizes.{Sizes}
use Rattle.commit_places.specs.declared.view.View.{View}
use Rattle.commit_places.specs.declared.view.View.TheVariants.{Hand, Joined}
use Rattle.commit_places.specs.Rule.{Status, undrawn, held, lying, taking, gone, lost, place_of, ticket_at, times, drawn_by, finished_by}
use Rattle.commit_places.specs.Steps.{committer_of}

-- whether a page is begun, or its piece lies in its place or is being taken from it
abbrev pub is_busy : Status → Bool
is_busy undrawn = false
is_busy (held seat Drawn) = false
is_busy (held seat Begun) = true
is_busy (held seat Placing) = true
is_busy lying = true
is_busy taking = true
is_busy gone = false
is_busy lost = false

-- how many of the pages 1 to n are
abbrev pub busy_count : (ℕ → Status) → ℕ → ℕ
busy_count status zero = 0
busy_count status (suc n) = busy_count status n + (if (is_busy (status (suc n))) then 1 else 0)

-- no more than may be are
abbrev pub FewBusy : Sizes → (ℕ → Status) → Type 0
FewBusy sizes status = busy_count status sizes.pages ≤ sizes.ahead

module _ {C : Type 0} (sizes : Sizes) (s : State (Option C) View) where
  -- how many pages are committed
  abbrev pub committed : ℕ
  committed = (committer_of (slice_index_or s.views 0 Joined)).count

  -- the hand of this seat has the page, and is so far with it
  abbrev pub Has : ℕ → Stage → ℕ → Type 0
  Has seat stage page = ticket_at s.views seat ≡ Held stage page

  -- the page's piece lies in its place: the place's word is the page's number
  abbrev pub Lies : ℕ → Type 0
  Lies page = slice_index_or s.words (place_of sizes.ahead page + 2) 0 ≡ page

  -- a page that one hand has no other has
  abbrev pub OneHandEach : Type 0
  OneHandEach = (page one other : ℕ) (a b : Stage) → Has one a page → Has other b page → one ≡ other

  -- a page that a hand has is a page, isn't committed, and its piece doesn't lie in its place
  abbrev pub NotLaidYet : Type 0
  NotLaidYet = (page seat : ℕ) (a : Stage) → Has seat a page → (committed < page) × (page ≤ sizes.pages) × (Lies page → ⊥)

  -- a page that is begun is near to the committed ones
  abbrev pub BegunNear : Type 0
  BegunNear = (page seat : ℕ) (a : Stage) → Has seat a page → a ≢ Drawn → page ≤ committed + sizes.ahead

  -- a piece that lies in its place is right for its page
  abbrev pub LiesRight : (ℕ → C → Type 0) → Type 0
  LiesRight right =
      (page : ℕ) → 0 < page → page ≤ sizes.pages → Lies page → (piece : C) × right page piece × (get_elem? s.homes (place_of sizes.ahead page) ≡ some (some (Some piece)))

  -- where a hand drew that all pages are drawn, they are: the last ticket is above the pages
  abbrev pub OverIsOver : Type 0
  OverIsOver = (seat : ℕ) (hand : HandView) → get_elem? s.views seat ≡ some (Hand hand) → hand.is_over ≡ true → sizes.pages < slice_index_or s.words 0 0

  -- no page was drawn twice, whoever drew it: it stands once at most in all lists of pages drawn
  abbrev pub DrawnOnce : Type 0
  DrawnOnce = (page : ℕ) → 0 < page → sum_by (λ (view : View). times page (drawn_by view)) s.views ≤ 1

  -- no page's piece was laid down twice
  abbrev pub FinishedOnce : Type 0
  FinishedOnce = (page : ℕ) → 0 < page → sum_by (λ (view : View). times page (finished_by view)) s.views ≤ 1

  -- a seat stands for pages finished only that it stands for as drawn
  abbrev pub FinishedByDrawer : Type 0
  FinishedByDrawer = (seat : ℕ) (view : View) → get_elem? s.views seat ≡ some view → (page : ℕ) → times page (finished_by view) ≤ times page (drawn_by view)
