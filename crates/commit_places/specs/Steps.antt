-- What each step makes of a seat's view, and what it tells.
use Rattle.std.specs.Prelude.{◌≡◌, ℕ, ◌+◌, ◌-◌, ◌^◌, ◌<◌, ◌==◌, true, false, nat_le, if◌then◌else◌, ◌∷◌, ◌++◌, Option, Some, None, MatchBool, []}
use Rattle.atomic_table.specs.Table.{Me, Step, rest}
use Rattle.commit_places.specs.declared.view.Sizes.{Sizes}
use Rattle.commit_places.specs.declared.view.Stage.TheVariants.{Drawn, Begun, Placing}
use Rattle.commit_places.specs.declared.view.Ticket.{Ticket}
use Rattle.commit_places.specs.declared.view.Ticket.TheVariants.{Free, Held}
use Rattle.commit_places.specs.declared.view.Next.TheVariants.{Waiting, Taking, Taken}
use Rattle.commit_places.specs.declared.view.HandView.{HandView}
use Rattle.commit_places.specs.declared.view.CommitterView.{CommitterView}
use Rattle.commit_places.specs.declared.view.View.{View}
use Rattle.commit_places.specs.declared.view.View.TheVariants.{Committer, Hand, Joined}
use Rattle.commit_places.specs.Rule.{mark, hands_of, overs_of, drawn_by, finished_by}

-- the page of a ticket
abbrev pub page_of : Ticket → ℕ
page_of Free = 0
page_of (Held stage page) = page

-- of no pages, places and workers
abbrev pub no_sizes : Sizes
no_sizes = record { pages = 0; ahead = 0; workers = 0 }

-- the committer before any step
abbrev pub first_committer : Sizes → CommitterView
first_committer sizes = record { sizes = sizes; count = 0; next = Waiting; is_stopped = false; hands = 0; joined_over = 0; joined = 0; drawn = []; finished = [] }

-- a hand that was just split
abbrev pub new_hand : Sizes → HandView
new_hand sizes = record { sizes = sizes; ticket = Free; is_over = false; drawn = []; finished = [] }

-- a hand that found this last ticket drew the next page, or that all are drawn
abbrev pub hand_drawing : HandView → ℕ → HandView
hand_drawing hand last = if (nat_le (last + 1) hand.sizes.pages) then (record hand { ticket = Held Drawn (last + 1); drawn = (last + 1) ∷ hand.drawn }) else (record hand { is_over = true })

-- a hand that found this count loses its page where the work is stopped, begins it where it is near enough, and else waits
abbrev pub hand_looking : HandView → ℕ → HandView
hand_looking hand count =
    if (nat_le mark count) then (record hand { ticket = Free })
    else if (nat_le (page_of hand.ticket) (count + hand.sizes.ahead)) then (record hand { ticket = Held Begun (page_of hand.ticket) }) else hand

-- a hand that lays its page down
abbrev pub hand_placing : HandView → HandView
hand_placing hand = record hand { ticket = Held Placing (page_of hand.ticket) }

-- a hand that has laid its page down
abbrev pub hand_finished : HandView → HandView
hand_finished hand = record hand { ticket = Free; finished = page_of hand.ticket ∷ hand.finished }

-- a change of what a hand knows
abbrev pub on_hand : (HandView → HandView) → View → View
on_hand change (Committer view) = Committer view
on_hand change (Hand view) = Hand (change view)
on_hand change Joined = Joined

-- a change of what the committer knows
abbrev pub on_committer : (CommitterView → CommitterView) → View → View
on_committer change (Committer view) = Committer (change view)
on_committer change (Hand view) = Hand view
on_committer change Joined = Joined

-- what the hand of a seat knows, and what the committer of a seat knows
abbrev pub hand_of : View → HandView
hand_of (Committer view) = new_hand view.sizes
hand_of (Hand view) = view
hand_of Joined = new_hand no_sizes

-- what the committer of a seat knows
abbrev pub committer_of : View → CommitterView
committer_of (Committer view) = view
committer_of (Hand view) = first_committer view.sizes
committer_of Joined = first_committer no_sizes

-- the committer splits a hand
abbrev pub committer_splitting : CommitterView → CommitterView
committer_splitting view = record view { hands = view.hands + 1 }

-- the sizes that a seat knows
abbrev pub sizes_of : View → Sizes
sizes_of (Committer view) = view.sizes
sizes_of (Hand view) = view.sizes
sizes_of Joined = no_sizes

-- a hand comes back to the committer, which stands for it from then on
abbrev pub committer_joining : View → CommitterView → CommitterView
committer_joining hand view =
    record view {
      joined_over = view.joined_over + overs_of hand;
      joined = view.joined + (hands_of hand - overs_of hand);
      drawn = drawn_by hand ++ view.drawn;
      finished = finished_by hand ++ view.finished;
    }

module _ {C : Type 0} where
  abbrev pub Draws : Step (Option C) → Me (Option C) View → ℕ → Me (Option C) View → Type 0
  Draws step me found after = (found < 2 ^ 33) × (after ≡ (on_hand (λ hand. hand_drawing hand found) me.0, me.1))

  abbrev pub Looks : Step (Option C) → Me (Option C) View → ℕ → Me (Option C) View → Type 0
  Looks step me found after = after ≡ (on_hand (λ hand. hand_looking hand found) me.0, me.1)

  -- the seat has taken the place, which was empty
  abbrev pub Seizes : Step (Option C) → Me (Option C) View → ℕ → Me (Option C) View → Type 0
  Seizes step me found after = after ≡ (on_hand hand_placing me.0, (step.word - 2, None) ∷ me.1)

  -- the seat has given the place back with the piece
  abbrev pub Lays : Step (Option C) → Me (Option C) View → ℕ → Me (Option C) View → Type 0
  Lays step me found after = after ≡ (on_hand hand_finished me.0, rest me.1)

  -- the committer has taken the place with the right piece of the page, where it found the page's number
  abbrev pub Takes : (ℕ → C → Type 0) → Step (Option C) → Me (Option C) View → ℕ → Me (Option C) View → Type 0
  Takes right step me found after =
      MatchBool (found == step.first) ((piece : C) × right step.first piece × (after ≡ (on_committer (λ view. record view { next = Taking }) me.0, (step.word - 2, Some piece) ∷ me.1)))
      (after ≡ me)

  -- the committer has given the place back, which is empty
  abbrev pub Clears : Step (Option C) → Me (Option C) View → ℕ → Me (Option C) View → Type 0
  Clears step me found after = after ≡ (on_committer (λ view. record view { next = Taken }) me.0, rest me.1)

  -- so many pages are committed
  abbrev pub Commits : Step (Option C) → Me (Option C) View → ℕ → Me (Option C) View → Type 0
  Commits step me found after = after ≡ (on_committer (λ view. record view { count = step.first; next = Waiting }) me.0, me.1)

  -- the work is stopped
  abbrev pub Stops : Step (Option C) → Me (Option C) View → ℕ → Me (Option C) View → Type 0
  Stops step me found after = after ≡ (on_committer (λ view. record view { is_stopped = true }) me.0, me.1)
