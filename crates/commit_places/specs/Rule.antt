-- The rule of the places: what is so at every moment, whatever the threads do.
-- Word 0 is the last ticket, which is the last number drawn. Word 1 is the count of committed pages, or 2 ^ 32 where the work is stopped.
-- Page p belongs to the place (p - 1) % ahead. Place i has the word i + 2: 0 where it is empty, a page's number where that page's piece
-- lies there, and 2 ^ 32 while a seat holds it. Its slot has the piece.
use Rattle.std.specs.Prelude.{◌≡◌, ℕ, ◌+◌, ◌-◌, ◌%◌, ◌^◌, ◌<◌, ◌≤◌, ◌⊎◌, ⊤, Bool, true, if◌then◌else◌, List, [], ◌∷◌, ◌==◌, length, sum_by, Option, Some, None, slice_index_or}
use mathlib.Core.Option.{some}
use mathlib.Core.Option as maybe
use lib.ListN.{get_elem?}
use Rattle.atomic_table.specs.Table.{State}
use Rattle.commit_places.specs.declared.view.Sizes.{Sizes}
use Rattle.commit_places.specs.declared.view.Stage.{Stage}
use Rattle.commit_places.specs.declared.view.Stage.TheVariants.{Drawn, Begun, Placing}
use Rattle.commit_places.specs.declared.view.Ticket.{Ticket}
use Rattle.commit_places.specs.declared.view.Ticket.TheVariants.{Free, Held}
use Rattle.commit_places.specs.declared.view.Next.{Next}
use Rattle.commit_places.specs.declared.view.Next.TheVariants.{Waiting, Taking, Taken}
use Rattle.commit_places.specs.declared.view.CommitterView.{CommitterView}
use Rattle.commit_places.specs.declared.view.View.{View}
use Rattle.commit_places.specs.declared.view.View.TheVariants.{Committer, Hand, Joined}

-- where a page is: not drawn; with the hand of this seat, so far; lying in its place; being taken from its place;
-- taken or committed; or lost, as its hand was told that the work is stopped
pub data Status : Type 0 where
  undrawn : Status
  held : ℕ → Stage → Status
  lying : Status
  taking : Status
  gone : Status
  lost : Status

-- the word of a place that a seat holds, and of a count that is stopped
abbrev pub mark : ℕ
mark = 2 ^ 32

-- the place of a page
abbrev pub place_of : ℕ → ℕ → ℕ
place_of ahead page = (page - 1) % ahead

-- a page with this status has its place
abbrev pub HasPlace : Status → Type 0
HasPlace undrawn = ⊥
HasPlace (held seat Drawn) = ⊥
HasPlace (held seat Begun) = ⊥
HasPlace (held seat Placing) = ⊤
HasPlace lying = ⊤
HasPlace taking = ⊤
HasPlace gone = ⊥
HasPlace lost = ⊥

-- what a seat has drawn and not finished
abbrev pub ticket_of : View → Ticket
ticket_of (Committer view) = Free
ticket_of (Hand view) = view.ticket
ticket_of Joined = Free

-- the ticket of the hand in a seat
abbrev pub ticket_at : List View → ℕ → Ticket
ticket_at views seat = ticket_of (slice_index_or views seat Joined)

-- how many hands this seat stands for
abbrev pub hands_of : View → ℕ
hands_of (Committer view) = view.joined_over + view.joined
hands_of (Hand view) = 1
hands_of Joined = 0

-- how many of them drew that all pages are drawn
abbrev pub overs_of : View → ℕ
overs_of (Committer view) = view.joined_over
overs_of (Hand view) = if view.is_over then 1 else 0
overs_of Joined = 0

-- all pages that the hands drew for which this seat stands
abbrev pub drawn_by : View → List ℕ
drawn_by (Committer view) = view.drawn
drawn_by (Hand view) = view.drawn
drawn_by Joined = []

-- all pages whose pieces they laid down
abbrev pub finished_by : View → List ℕ
finished_by (Committer view) = view.finished
finished_by (Hand view) = view.finished
finished_by Joined = []

-- how often the page stands in the list
abbrev pub times : ℕ → List ℕ → ℕ
times page pages = sum_by (λ (p : ℕ). if (p == page) then 1 else 0) pages

-- how often a page with this status was drawn
abbrev pub draws_of : Status → ℕ
draws_of undrawn = 0
draws_of (held seat stage) = 1
draws_of lying = 1
draws_of taking = 1
draws_of gone = 1
draws_of lost = 1

-- how often its piece was laid down
abbrev pub finishes_of : Status → ℕ
finishes_of undrawn = 0
finishes_of (held seat stage) = 0
finishes_of lying = 1
finishes_of taking = 1
finishes_of gone = 1
finishes_of lost = 0

-- the page that a ticket is for, if it is held
abbrev pub pages_in : Ticket → List ℕ
pages_in Free = []
pages_in (Held stage page) = page ∷ []

module _ {C : Type 0} (right : ℕ → C → Type 0) (sizes : Sizes) (count : ℕ) (next : Next) (stopped : Bool) (words : List ℕ) (homes : List (maybe.Option (Option C))) where
  abbrev pub InRange : ℕ → Type 0
  InRange page = (page ≤ slice_index_or words 0 0) × (page ≤ sizes.pages)

  -- not committed, and near enough to be begun
  abbrev pub InReach : ℕ → Type 0
  InReach page = (count < page) × (page ≤ count + sizes.ahead)

  -- what the page's place has in its word and its slot
  abbrev pub PlaceHas : ℕ → ℕ → maybe.Option (Option C) → Type 0
  PlaceHas page word home = (slice_index_or words (place_of sizes.ahead page + 2) 0 ≡ word) × (get_elem? homes (place_of sizes.ahead page) ≡ some home)

  -- the status is right for the page
  abbrev pub Fits : ℕ → Status → Type 0
  Fits page undrawn = (slice_index_or words 0 0 < page) ⊎ (sizes.pages < page)
  Fits page (held seat Drawn) = InRange page × (count < page)
  Fits page (held seat Begun) = InRange page × InReach page
  Fits page (held seat Placing) = InRange page × InReach page × PlaceHas page mark maybe.none
  Fits page lying = InRange page × InReach page × ((piece : C) × right page piece × PlaceHas page page (some (Some piece)))
  Fits page taking = InRange page × (page ≡ count + 1) × (next ≡ Taking) × PlaceHas page mark maybe.none
  Fits page gone = InRange page × ((page ≤ count) ⊎ ((page ≡ count + 1) × (next ≡ Taken)))
  Fits page lost = InRange page × (stopped ≡ true)

  -- a place is empty, or belongs to a page that has it
  abbrev pub PlaceFits : (ℕ → Status) → ℕ → Type 0
  PlaceFits status place =
      ((slice_index_or words (place + 2) 0 ≡ 0) × (get_elem? homes place ≡ some (some None)))
      ⊎ ((page : ℕ) × (place_of sizes.ahead page ≡ place) × HasPlace (status page))

-- the page after the committed ones is as the committer has it
abbrev pub NextFits : Next → Status → Type 0
NextFits Waiting status = ⊤
NextFits Taking status = status ≡ taking
NextFits Taken status = status ≡ gone

-- the rule: each page has one status that fits, and the views are those of one committer and of hands whose tickets are pages
pub record Kept {C : Type 0} (right : ℕ → C → Type 0) (sizes : Sizes) (s : State (Option C) View) : Type 0 where
  pub status : ℕ → Status
  pub committer : CommitterView
  pub some_place : 0 < sizes.ahead
  pub small : sizes.pages + sizes.workers < 2 ^ 32
  pub word_count : length s.words ≡ sizes.ahead + 2
  pub place_count : length s.homes ≡ sizes.ahead
  pub first_seat : get_elem? s.views 0 ≡ some (Committer committer)
  pub only_seat : (seat : ℕ) (view : CommitterView) → get_elem? s.views seat ≡ some (Committer view) → seat ≡ 0
  pub count_is : slice_index_or s.words 1 0 ≡ (if committer.is_stopped then mark else committer.count)
  pub count_fits : InRange right sizes committer.count committer.next committer.is_stopped s.words s.homes committer.count
  pub each_page : (page : ℕ) → Fits right sizes committer.count committer.next committer.is_stopped s.words s.homes page (status page)
  pub next_page : NextFits committer.next (status (committer.count + 1))
  pub each_place : (place : ℕ) → place < sizes.ahead → PlaceFits right sizes committer.count committer.next committer.is_stopped s.words s.homes status place
  pub held_is : (page seat : ℕ) (stage : Stage) → status page ≡ held seat stage → ticket_at s.views seat ≡ Held stage page
  pub ticket_is : (page seat : ℕ) (stage : Stage) → ticket_at s.views seat ≡ Held stage page → status page ≡ held seat stage
  pub overs : sum_by overs_of s.views ≡ slice_index_or s.words 0 0 - sizes.pages
  pub hands : sum_by hands_of s.views ≡ committer.hands
  pub drawn_once : (page : ℕ) → 0 < page → sum_by (λ (view : View). times page (drawn_by view)) s.views ≡ draws_of (status page)
  pub finished_once : (page : ℕ) → 0 < page → sum_by (λ (view : View). times page (finished_by view)) s.views ≡ finishes_of (status page)
  pub own : (seat : ℕ) (view : View) → get_elem? s.views seat ≡ some view → (page : ℕ) → times page (finished_by view) + times page (pages_in (ticket_of view)) ≤ times page (drawn_by view)
  pub hands_fit : committer.hands ≤ sizes.workers + 1
