-- One frame for each step that changes the status of one page and the view of one seat: all else stays.
use Rattle.std.proofs.Common.{◌≡◌, ◌≢◌, ℕ, ◌+◌, ◌-◌, ◌<◌, ◌≤◌, ◌⊎◌, inl, inr, List, length, get_or, set, refl, sym, ap, ◌∙◌, subst, arith, ⊎_elim, ◌∷◌}
use Rattle.std.specs.Prelude.{Option}
use mathlib.Core.Option.{some, none}
use mathlib.Core.Option as maybe
use lib.ListN.{get_elem?}
use Rattle.atomic_table.specs.Table.{State}
use Rattle.atomic_table.proofs.Lists.{at_set}
use Rattle.commit_places.specs.declared.view.Sizes.{Sizes}
use Rattle.commit_places.specs.declared.view.Stage.{Stage}
use Rattle.commit_places.specs.declared.view.Stage.TheVariants.{Drawn, Begun, Placing}
use Rattle.commit_places.specs.declared.view.Ticket.TheVariants.{Held}
use Rattle.commit_places.specs.declared.view.Next.{Next}
use Rattle.commit_places.specs.declared.view.CommitterView.{CommitterView}
use Rattle.commit_places.specs.declared.view.View.{View}
use Rattle.commit_places.specs.declared.view.View.TheVariants.{Committer}
use Rattle.commit_places.specs.Rule.{Status, undrawn, held, lying, taking, gone, lost, place_of, HasPlace, ticket_of, ticket_at, hands_of, overs_of, drawn_by, finished_by, times, draws_of, finishes_of, pages_in, Fits, PlaceFits, NextFits, Kept}
use Rattle.commit_places.proofs.Basics.{by_eq, times_here, times_else, put, put_here, put_else, sum_put, ticket_now, ticket_here, ticket_else}

module _ {C : Type 0} (right : ℕ → C → Type 0) (sizes : Sizes) (s : State (Option C) View) (k : Kept right sizes s) where
  abbrev pub Slots : Type 0
  Slots = List (maybe.Option (Option C))

  -- the status fits, where these are the committer's next page, the words and the slots
  abbrev pub F : Next → List ℕ → Slots → ℕ → Status → Type 0
  F next ws hs = Fits right sizes k.committer.count next k.committer.is_stopped ws hs

  module _ (p : ℕ) (x : Status) (id : ℕ) (v w : View) (at : get_elem? s.views id ≡ some v) (next : Next) (ws : List ℕ) (hs : Slots) where
    abbrev pub After : State (Option C) View
    After = record { words = ws; homes = hs; views = set s.views id w }

    abbrev pub Lead : CommitterView
    Lead = record k.committer { next = next }

    pub new : ℕ → Status
    new = put k.status p x

    pub new_here : new p ≡ x
    unfolding new
    new_here = put_here k.status p x

    pub new_else : (q : ℕ) → q ≢ p → new q ≡ k.status q
    unfolding new
    new_else q ne = put_else k.status p q x ne

    -- what a step owes that makes the page p one of status x, and the seat's view w
    pub record Turn : Type 0 where
      pub word_count : length ws ≡ length s.words
      pub place_count : length hs ≡ length s.homes
      pub more : get_or s.words 0 0 ≤ get_or ws 0 0
      pub undrawn_stays : (q : ℕ) → q ≢ p → get_or s.words 0 0 < q → (get_or ws 0 0 < q) ⊎ (sizes.pages < q)
      pub count_same : get_or ws 1 0 ≡ get_or s.words 1 0
      pub place_stays : (q : ℕ) → q ≢ p → HasPlace (k.status q) → (get_or ws (place_of sizes.ahead q + 2) 0 ≡ get_or s.words (place_of sizes.ahead q + 2) 0) × (get_elem? hs (place_of sizes.ahead q) ≡ get_elem? s.homes (place_of sizes.ahead q))
      pub place_fits : (i : ℕ) → i < sizes.ahead → PlaceFits right sizes k.committer.count next k.committer.is_stopped ws hs new i
      pub page_fits : F next ws hs p x
      pub next_stays : (p ≡ k.committer.count + 1) ⊎ (next ≡ k.committer.next)
      pub next_page : NextFits next (new (k.committer.count + 1))
      pub first_seat : get_elem? (set s.views id w) 0 ≡ some (Committer Lead)
      pub only_seat : (c : CommitterView) → w ≡ Committer c → id ≡ 0
      pub own_before : (q : ℕ) (g : Stage) → ticket_of v ≡ Held g q → q ≡ p
      pub page_before : (j : ℕ) (g : Stage) → k.status p ≡ held j g → j ≡ id
      pub page_after : (j : ℕ) (g : Stage) → x ≡ held j g → (j ≡ id) × (ticket_of w ≡ Held g p)
      pub own_after : (q : ℕ) (g : Stage) → ticket_of w ≡ Held g q → (q ≡ p) × (x ≡ held id g)
      pub overs : overs_of w + (get_or s.words 0 0 - sizes.pages) ≡ overs_of v + (get_or ws 0 0 - sizes.pages)
      pub hands : hands_of w ≡ hands_of v
      pub drawn_step : (q : ℕ) → times q (drawn_by w) + draws_of (k.status q) ≡ times q (drawn_by v) + draws_of (new q)
      pub finished_step : (q : ℕ) → times q (finished_by w) + finishes_of (k.status q) ≡ times q (finished_by v) + finishes_of (new q)
      pub own_step : (q : ℕ) → times q (finished_by w) + times q (pages_in (ticket_of w)) ≤ times q (drawn_by w)

    -- a number that the new status has as the old one had
    pub same_count : (f : Status → ℕ) → f x ≡ f (k.status p) → (l : List ℕ) (q : ℕ) → times q l + f (k.status q) ≡ times q l + f (new q)
    same_count f same l q = ap (λ (n : ℕ). times q l + n) (by_eq q p (f (k.status q) ≡ f (new q))
        (λ e. ap (λ (y : ℕ). f (k.status y)) e ∙ sym same ∙ sym (ap f new_here) ∙ ap (λ (y : ℕ). f (new y)) (sym e))
        (λ ne. sym (ap f (new_else q ne))))

    -- a number that is one more for the new status, and the page joins the list
    pub more_count : (f : Status → ℕ) → f (k.status p) ≡ 0 → f x ≡ 1 → (l : List ℕ) (q : ℕ) → times q (p ∷ l) + f (k.status q) ≡ times q l + f (new q)
    more_count f none_yet one l q = by_eq q p (times q (p ∷ l) + f (k.status q) ≡ times q l + f (new q))
        (λ e. let a = times_here p q l (sym e) in let b : f (k.status q) ≡ 0 = ap (λ (y : ℕ). f (k.status y)) e ∙ none_yet in let c : f (new q) ≡ 1 = ap (λ (y : ℕ). f (new y)) e ∙ ap f new_here ∙ one in omega arith)
        (λ ne. let a = times_else p q l (λ e. ne (sym e)) in let b = ap f (new_else q ne) in omega arith)

    module _ (t : Turn) where
      in_range : (q : ℕ) → (q ≤ get_or s.words 0 0) × (q ≤ sizes.pages) → (q ≤ get_or ws 0 0) × (q ≤ sizes.pages)
      in_range q h = let a = h.0 in (omega (arith, t.more), h.1)

      stays : (q : ℕ) (y : Status) → q ≢ p → k.status q ≡ y → F k.committer.next s.words s.homes q y → F next ws hs q y
      stays q undrawn ne e h = ⊎_elim (t.undrawn_stays q ne) (λ r. inr r) h
      stays q (held j Drawn) ne e h = (in_range q h.0, h.1)
      stays q (held j Begun) ne e h = (in_range q h.0, h.1)
      stays q (held j Placing) ne e h = let o = t.place_stays q ne (subst HasPlace (sym e) tt) in (in_range q h.0, h.1, (o.0 ∙ h.2.0, o.1 ∙ h.2.1))
      stays q lying ne e h = let o = t.place_stays q ne (subst HasPlace (sym e) tt) in (in_range q h.0, h.1, (h.2.0, h.2.1, (o.0 ∙ h.2.2.0, o.1 ∙ h.2.2.1)))
      stays q taking ne e h = let o = t.place_stays q ne (subst HasPlace (sym e) tt) in (in_range q h.0, h.1, ⊎_elim (λ d. absurd (ne (h.1 ∙ sym d))) (λ same. same ∙ h.2) t.next_stays, (o.0 ∙ h.3.0, o.1 ∙ h.3.1))
      stays q gone ne e h = (in_range q h.0, ⊎_elim (λ l. inl l) (λ r. inr (r.0, ⊎_elim (λ d. absurd (ne (r.0 ∙ sym d))) (λ same. same ∙ r.1) t.next_stays)) h.1)
      stays q lost ne e h = (in_range q h.0, h.1)

      page : (q : ℕ) → F next ws hs q (new q)
      page q = by_eq q p (F next ws hs q (new q))
          (λ e. subst (λ (y : ℕ). F next ws hs y (new y)) (sym e) (subst (λ (y : Status). F next ws hs p y) (sym new_here) t.page_fits))
          (λ ne. subst (λ (y : Status). F next ws hs q y) (sym (new_else q ne)) (stays q (k.status q) ne refl (k.each_page q)))

      held_is : (q j : ℕ) (g : Stage) → new q ≡ held j g → ticket_at (set s.views id w) j ≡ Held g q
      held_is q j g e = by_eq q p (ticket_at (set s.views id w) j ≡ Held g q)
          (λ here. let a = t.page_after j g (sym new_here ∙ ap new (sym here) ∙ e) in ap (ticket_at (set s.views id w)) a.0 ∙ ticket_here s.views id v w at ∙ a.1 ∙ ap (Held g) (sym here))
          (λ ne. let b = k.held_is q j g (sym (new_else q ne) ∙ e) in ticket_else s.views id v w at j (λ same. ne (t.own_before q g (sym (ticket_now s.views id v w at) ∙ ap (ticket_at s.views) (sym same) ∙ b))) ∙ b)

      ticket_is : (q j : ℕ) (g : Stage) → ticket_at (set s.views id w) j ≡ Held g q → new q ≡ held j g
      ticket_is q j g e = by_eq j id (new q ≡ held j g)
          (λ same. let a = t.own_after q g (sym (ticket_here s.views id v w at) ∙ ap (ticket_at (set s.views id w)) (sym same) ∙ e) in ap new a.0 ∙ new_here ∙ a.1 ∙ ap (λ (i : ℕ). held i g) (sym same))
          (λ other. let b = k.ticket_is q j g (sym (ticket_else s.views id v w at j other) ∙ e) in new_else q (λ here. other (t.page_before j g (ap k.status (sym here) ∙ b))) ∙ b)

      pub turned : Kept right sizes After
      turned = let overs = sum_put overs_of s.views id v w at in let hands = sum_put hands_of s.views id v w at in record {
        status = new;
        committer = Lead;
        some_place = k.some_place;
        small = k.small;
        word_count = t.word_count ∙ k.word_count;
        place_count = t.place_count ∙ k.place_count;
        first_seat = t.first_seat;
        only_seat = λ j c e. ⊎_elim (λ l. l.0 ∙ t.only_seat c l.1) (λ r. k.only_seat j c r.1) (at_set s.views id j w (Committer c) e);
        count_is = t.count_same ∙ k.count_is;
        count_fits = in_range k.committer.count k.count_fits;
        each_page = page;
        next_page = t.next_page;
        each_place = t.place_fits;
        held_is = held_is;
        ticket_is = ticket_is;
        overs = (let o = t.overs in let b = k.overs in omega (arith, overs));
        hands = (let h = t.hands in let b = k.hands in omega (arith, hands));
        drawn_once = λ q some_page. (let a = sum_put (λ (u : View). times q (drawn_by u)) s.views id v w at in let b = k.drawn_once q some_page in let c = t.drawn_step q in omega arith);
        finished_once = λ q some_page. (let a = sum_put (λ (u : View). times q (finished_by u)) s.views id v w at in let b = k.finished_once q some_page in let c = t.finished_step q in omega arith);
        own = λ j u e q. ⊎_elim (λ l. subst (λ (y : View). times q (finished_by y) + times q (pages_in (ticket_of y)) ≤ times q (drawn_by y)) l.1 (t.own_step q)) (λ r. k.own j u r.1 q) (at_set s.views id j w u e);
        hands_fit = k.hands_fit;
      }
