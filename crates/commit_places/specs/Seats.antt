-- What callers see of places, of hands and of the committer, and what the calls answer.
use Rattle.std.specs.Prelude.{◌≡◌, ℕ, ◌+◌, ◌<◌, ◌≤◌, Bool, List, [], ◌∷◌, ◌++◌, true, false, nat_le, if◌then◌else◌, Option}
use Rattle.atomic_table.specs.Table.{Me}
use Rattle.atomic_table.specs.Seated.{TableId}
use Rattle.commit_places.specs.declared.view.View.{View}
use Rattle.commit_places.specs.declared.view.View.TheVariants.{Hand}
use Rattle.commit_places.specs.declared.view.Sizes.{Sizes}
use Rattle.commit_places.specs.declared.view.Stage.TheVariants.{Drawn, Begun}
use Rattle.commit_places.specs.declared.view.Ticket.{Ticket}
use Rattle.commit_places.specs.declared.view.Ticket.TheVariants.{Free, Held}
use Rattle.commit_places.specs.declared.view.Next.{Next}
use Rattle.commit_places.specs.declared.view.Next.TheVariants.{Waiting, Taken}
use Rattle.commit_places.specs.declared.view.HandView.{HandView}
use Rattle.commit_places.specs.declared.view.CommitterView.{CommitterView}
use Rattle.commit_places.specs.declared.answer.Draw.{Draw}
use Rattle.commit_places.specs.declared.answer.Draw.TheVariants.{Page, Over}
use Rattle.commit_places.specs.declared.answer.Ready.{Ready}
use Rattle.commit_places.specs.declared.answer.Ready.TheVariants.{Go, Later, Stopped}
use Rattle.commit_places.specs.Rule.{mark}
use Rattle.commit_places.specs.Steps.{page_of, hand_of}

-- which places, and their sizes
pub record PlacesId : Type 0 where
  pub table : TableId
  pub sizes : Sizes

-- the sizes of so many pages, places and workers
abbrev pub sizes_with : ℕ → ℕ → ℕ → Sizes
sizes_with pages ahead workers = record { pages = pages; ahead = ahead; workers = workers }

-- the table has these sizes: its key says so, and it has a slot for each place, and a word for each place beside the first two
abbrev pub IsTableOf : Sizes → Sizes → TableId → Type 0
IsTableOf sizes key table = (key ≡ sizes) × (table.words ≡ sizes.ahead + 2) × (table.slots ≡ sizes.ahead) × (0 < sizes.ahead)

-- a hand: its places, the page that it drew and hasn't finished, whether it drew that all are drawn, and all pages that it drew and finished
pub record HandState : Type 0 where
  pub places : PlacesId
  pub ticket : Ticket
  pub is_over : Bool
  pub drawn : List ℕ
  pub finished : List ℕ

-- the committer: its places, the count of committed pages, whether the next one is taken, whether the work is stopped, how many hands there ever were,
-- and all pages that the hands drew and finished that came back
pub record CommitterState : Type 0 where
  pub places : PlacesId
  pub count : ℕ
  pub next : Next
  pub is_stopped : Bool
  pub hands : ℕ
  pub drawn : List ℕ
  pub finished : List ℕ

-- the seat is that of a hand which holds no slot, and whose page is this
abbrev pub IsHandWith : {C : Type 0} → Me (Option C) View → ℕ → Type 0
IsHandWith me page = (me ≡ (Hand (hand_of me.0), [])) × (page ≡ page_of (hand_of me.0).ticket)

-- what callers see of a hand and of the committer that know this
abbrev pub hand_state : TableId → HandView → HandState
hand_state table view = record { places = record { table = table; sizes = view.sizes }; ticket = view.ticket; is_over = view.is_over; drawn = view.drawn; finished = view.finished }

-- the committer as code holds it
abbrev pub committer_state : TableId → CommitterView → CommitterState
committer_state table view =
    record { places = record { table = table; sizes = view.sizes }; count = view.count; next = view.next; is_stopped = view.is_stopped; hands = view.hands; drawn = view.drawn; finished = view.finished }

-- a hand that was just split
abbrev pub new_hand_state : PlacesId → HandState
new_hand_state places = record { places = places; ticket = Free; is_over = false; drawn = []; finished = [] }

-- the committer of new places, which has split its own hand
abbrev pub first_state : PlacesId → CommitterState
first_state places = record { places = places; count = 0; next = Waiting; is_stopped = false; hands = 1; drawn = []; finished = [] }

-- the hand may draw: it has no page, and hasn't drawn that all are drawn
abbrev pub MayDraw : HandState → Type 0
MayDraw hand = (hand.ticket ≡ Free) × (hand.is_over ≡ false)

-- the hand has a page that it hasn't begun
abbrev pub HasDrawn : HandState → Type 0
HasDrawn hand = hand.ticket ≡ Held Drawn (page_of hand.ticket)

-- the hand has a page that it has begun
abbrev pub HasBegun : HandState → Type 0
HasBegun hand = hand.ticket ≡ Held Begun (page_of hand.ticket)

-- the answer to a draw that found this last ticket: the next number, and over exactly where that is above the pages
abbrev pub draw_answer : ℕ → ℕ → Draw
draw_answer pages last = if (nat_le (last + 1) pages) then (Page (last + 1)) else Over

-- the hand after this answer
abbrev pub after_draw : HandState → Draw → HandState
after_draw hand (Page page) = record hand { ticket = Held Drawn page; drawn = page ∷ hand.drawn }
after_draw hand Over = record hand { is_over = true }

-- the answer to a look that found this in word 1: stopped exactly at the stop value, and else go exactly where the page is near enough
abbrev pub ready_answer : HandState → ℕ → Ready
ready_answer hand found =
    if (nat_le mark found) then Stopped else if (nat_le (page_of hand.ticket) (found + hand.places.sizes.ahead)) then Go else (Later found)

-- the hand after this answer
abbrev pub after_ready : HandState → Ready → HandState
after_ready hand Go = record hand { ticket = Held Begun (page_of hand.ticket) }
after_ready hand (Later committed) = hand
after_ready hand Stopped = record hand { ticket = Free }

-- the committer may take the page: it is the next and not taken, and the work isn't stopped
abbrev pub MayTake : CommitterState → ℕ → Type 0
MayTake by page = (page ≡ by.count + 1) × (page ≤ by.places.sizes.pages) × (by.next ≡ Waiting) × (by.is_stopped ≡ false)

-- the committer may commit the page: it was just taken, and the work isn't stopped
abbrev pub MayCommit : CommitterState → ℕ → Type 0
MayCommit by page = (page ≡ by.count + 1) × (by.next ≡ Taken) × (by.is_stopped ≡ false)

-- the committer after it looked for the next page's piece
abbrev pub after_take : CommitterState → Bool → CommitterState
after_take by found = if found then (record by { next = Taken }) else by

-- the hand after its piece was laid down
abbrev pub after_finish : HandState → HandState
after_finish hand = record hand { ticket = Free; finished = page_of hand.ticket ∷ hand.finished }

-- the committer after the hand came back
abbrev pub after_join : CommitterState → HandState → CommitterState
after_join by hand = record by { drawn = hand.drawn ++ by.drawn; finished = hand.finished ++ by.finished }
