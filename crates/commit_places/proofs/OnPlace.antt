-- One frame for the steps on the word of a page's place: the place, the page and the seat change, and all else stays.
use Rattle.std.proofs.Common.{◌≡◌, ◌≢◌, ℕ, ◌+◌, ◌-◌, ◌<◌, ◌≤◌, ◌⊎◌, inl, inr, List, get_or, set, sym, ap, ◌∙◌, subst, arith, length-set, get_or-set_same, get_or-set_other, mod-lt, ⊎_elim}
use Rattle.std.specs.Prelude.{Option, None}
use mathlib.Core.Option.{some, none}
use mathlib.Core.Option as maybe
use lib.ListN.{get_elem?}
use Rattle.atomic_table.specs.Table.{State}
use Rattle.atomic_table.proofs.Lists.{set_here, set_else}
use Rattle.commit_places.specs.declared.view.Sizes.{Sizes}
use Rattle.commit_places.specs.declared.view.Stage.{Stage}
use Rattle.commit_places.specs.declared.view.Stage.TheVariants.{Drawn, Begun, Placing}
use Rattle.commit_places.specs.declared.view.Ticket.TheVariants.{Held}
use Rattle.commit_places.specs.declared.view.Next.{Next}
use Rattle.commit_places.specs.declared.view.CommitterView.{CommitterView}
use Rattle.commit_places.specs.declared.view.View.{View}
use Rattle.commit_places.specs.declared.view.View.TheVariants.{Committer}
use Rattle.commit_places.specs.Rule.{Status, undrawn, held, lying, taking, gone, lost, place_of, HasPlace, ticket_of, hands_of, overs_of, drawn_by, finished_by, times, draws_of, finishes_of, pages_in, PlaceFits, NextFits, Kept}
use Rattle.commit_places.proofs.Basics.{by_eq, same_page}
use Rattle.commit_places.proofs.Frame.{F, Lead, new, new_here, new_else, same_count, turned}

module _ {C : Type 0} (right : ℕ → C → Type 0) (sizes : Sizes) (s : State (Option C) View) (k : Kept right sizes s) where
  -- a page that has a place is in reach
  pub reach : (q : ℕ) (y : Status) → HasPlace y → F right sizes s k k.committer.next s.words s.homes q y → (k.committer.count < q) × (q ≤ k.committer.count + sizes.ahead)
  reach q undrawn has h = absurd has
  reach q (held j Drawn) has h = absurd has
  reach q (held j Begun) has h = absurd has
  reach q (held j Placing) has h = h.1
  reach q lying has h = h.1
  reach q taking has h = let e = h.1 in let a = k.some_place in (omega arith, omega arith)
  reach q gone has h = absurd has
  reach q lost has h = absurd has

  module _ (p : ℕ) (above : k.committer.count < p) (near : p ≤ k.committer.count + sizes.ahead) (x : Status) (id : ℕ) (v w : View) (at : get_elem? s.views id ≡ some v) (next : Next)
      (word : ℕ) (home : maybe.Option (Option C)) where
    abbrev I : ℕ
    I = place_of sizes.ahead p

    abbrev pub Words : List ℕ
    Words = set s.words (I + 2) word

    abbrev pub Homes : List (maybe.Option (Option C))
    Homes = set s.homes I home

    abbrev St : ℕ → Status
    St = new right sizes s k p x id v w at next Words Homes

    in_row : I < sizes.ahead
    in_row = mod-lt (p - 1) k.some_place

    pub last_same : get_or Words 0 0 ≡ get_or s.words 0 0
    last_same = get_or-set_other s.words (I + 2) 0 word 0 (λ e. omega arith)

    word_same : (i : ℕ) → i ≢ I → get_or Words (i + 2) 0 ≡ get_or s.words (i + 2) 0
    word_same i ne = get_or-set_other s.words (I + 2) (i + 2) word 0 (λ e. ne (omega arith))

    pub word_here : get_or Words (I + 2) 0 ≡ word
    word_here = get_or-set_same s.words (I + 2) word 0 (let c = k.word_count in let n = in_row in omega arith)

    pub home_here : get_elem? Homes I ≡ some home
    home_here = set_here s.homes I home (let c = k.place_count in let n = in_row in omega arith)

    -- no other page has the place
    pub alone : (q : ℕ) → HasPlace (k.status q) → place_of sizes.ahead q ≡ I → q ≡ p
    alone q has e = let r = reach q (k.status q) has (k.each_page q) in same_page sizes.ahead k.committer.count q p r.0 r.1 above near e

    -- what such a step owes
    pub record Own : Type 0 where
      pub page_fits : F right sizes s k next Words Homes p x
      pub filled : HasPlace x ⊎ ((word ≡ 0) × (home ≡ some None))
      pub next_stays : (p ≡ k.committer.count + 1) ⊎ (next ≡ k.committer.next)
      pub next_page : NextFits next (St (k.committer.count + 1))
      pub first_seat : get_elem? (set s.views id w) 0 ≡ some (Committer (Lead right sizes s k p x id v w at next Words Homes))
      pub only_seat : (c : CommitterView) → w ≡ Committer c → id ≡ 0
      pub own_before : (q : ℕ) (g : Stage) → ticket_of v ≡ Held g q → q ≡ p
      pub page_before : (j : ℕ) (g : Stage) → k.status p ≡ held j g → j ≡ id
      pub page_after : (j : ℕ) (g : Stage) → x ≡ held j g → (j ≡ id) × (ticket_of w ≡ Held g p)
      pub own_after : (q : ℕ) (g : Stage) → ticket_of w ≡ Held g q → (q ≡ p) × (x ≡ held id g)
      pub overs : overs_of w ≡ overs_of v
      pub hands : hands_of w ≡ hands_of v
      pub draws : draws_of x ≡ draws_of (k.status p)
      pub drawn : drawn_by w ≡ drawn_by v
      pub finished_step : (q : ℕ) → times q (finished_by w) + finishes_of (k.status q) ≡ times q (finished_by v) + finishes_of (St q)
      pub own_step : (q : ℕ) → times q (finished_by w) + times q (pages_in (ticket_of w)) ≤ times q (drawn_by w)

    module _ (o : Own) where
      place_fits : (i : ℕ) → i < sizes.ahead → PlaceFits right sizes k.committer.count next k.committer.is_stopped Words Homes St i
      place_fits i lt = by_eq i I (PlaceFits right sizes k.committer.count next k.committer.is_stopped Words Homes St i)
          (λ e. ⊎_elim (λ has. inr (p, sym e, subst HasPlace (sym (new_here right sizes s k p x id v w at next Words Homes)) has))
          (λ f. inl (ap (λ (y : ℕ). get_or Words (y + 2) 0) e ∙ word_here ∙ f.0, ap (λ (y : ℕ). get_elem? Homes y) e ∙ home_here ∙ ap some f.1)) o.filled)
          (λ ne. ⊎_elim (λ f. inl (word_same i ne ∙ f.0, set_else s.homes I i home ne ∙ f.1))
          (λ g. inr (g.0, g.1, subst HasPlace (sym (new_else right sizes s k p x id v w at next Words Homes g.0 (λ e. ne (sym g.1 ∙ ap (place_of sizes.ahead) e)))) g.2)) (k.each_place i lt))

      pub placed : Kept right sizes (record { words = Words; homes = Homes; views = set s.views id w })
      placed = turned right sizes s k p x id v w at next Words Homes (record {
        word_count = length-set s.words (I + 2) word;
        place_count = length-set s.homes I home;
        more = omega (arith, last_same);
        undrawn_stays = λ q ne up. inl (omega (arith, last_same));
        count_same = get_or-set_other s.words (I + 2) 1 word 0 (λ e. omega arith);
        place_stays = λ q ne has. let far : place_of sizes.ahead q ≢ I = λ e. ne (alone q has e) in (word_same (place_of sizes.ahead q) far, set_else s.homes I (place_of sizes.ahead q) home far);
        place_fits = place_fits;
        page_fits = o.page_fits;
        next_stays = o.next_stays;
        next_page = o.next_page;
        first_seat = o.first_seat;
        only_seat = o.only_seat;
        own_before = o.own_before;
        page_before = o.page_before;
        page_after = o.page_after;
        own_after = o.own_after;
        overs = (let e = o.overs in omega (arith, last_same));
        hands = o.hands;
        drawn_step = λ q. subst (λ (l : List ℕ). times q l + draws_of (k.status q) ≡ times q (drawn_by v) + draws_of (St q)) (sym o.drawn) (same_count right sizes s k p x id v w at next Words Homes draws_of o.draws (drawn_by v) q);
        finished_step = o.finished_step;
        own_step = o.own_step;
      })
