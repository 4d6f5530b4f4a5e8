-- The two steps of a finish keep the rule: the hand takes the place of its page, and gives it back with the piece.
use Rattle.std.proofs.Common.{◌≡◌, ℕ, ◌+◌, ◌-◌, inl, inr, List, ◌∷◌, set, refl, sym, ap, ◌∙◌, subst, arith, mod-lt, ⊎_elim, []}
use Rattle.std.specs.Prelude.{Option, Some, None}
use mathlib.Core.Option.{some, none}
use mathlib.Core.Option as maybe
use lib.ListN.{get_elem?}
use Rattle.atomic_table.specs.Table.{State, step, takes, gives, Allows}
use Rattle.commit_places.specs.declared.view.Sizes.{Sizes}
use Rattle.commit_places.specs.declared.view.Stage.{Stage}
use Rattle.commit_places.specs.declared.view.Stage.TheVariants.{Begun, Placing}
use Rattle.commit_places.specs.declared.view.Ticket.{Ticket}
use Rattle.commit_places.specs.declared.view.Ticket.TheVariants.{Free, Held}
use Rattle.commit_places.specs.declared.view.HandView.{HandView}
use Rattle.commit_places.specs.declared.view.View.{View}
use Rattle.commit_places.specs.declared.view.View.TheVariants.{Hand}
use Rattle.commit_places.specs.Rule.{Status, held, lying, mark, place_of, HasPlace, Kept, times, draws_of, finishes_of, pages_in}
use Rattle.commit_places.specs.Steps.{page_of, Seizes, Lays}
use Rattle.commit_places.proofs.Basics.{no_ticket, ticket_now, same_page, times_more}
use Rattle.commit_places.proofs.Frame.{F, new_else, same_count, more_count}
use Rattle.commit_places.proofs.Hands.{not_committer, first_stays, next_kept}
use Rattle.commit_places.proofs.OnPlace.{reach, last_same, word_here, home_here, placed}

module _ {C : Type 0} (right : ℕ → C → Type 0) (sizes : Sizes) (s : State (Option C) View) (k : Kept right sizes s)
    (id : ℕ) (h : HandView) (at : get_elem? s.views id ≡ some (Hand h)) (p : ℕ) where
  abbrev I : ℕ
  I = place_of sizes.ahead p

  module _ (g : Stage) (has : h.ticket ≡ Held g p) where
    is_mine : k.status p ≡ held id g
    is_mine = k.ticket_is p id g (ticket_now s.views id (Hand h) (Hand h) at ∙ has)

    mine : F right sizes s k k.committer.next s.words s.homes p (held id g)
    mine = subst (λ (y : Status). F right sizes s k k.committer.next s.words s.homes p y) is_mine (k.each_page p)

  module _ (begun : h.ticket ≡ Held Begun p) where
    is_begun : k.status p ≡ held id Begun
    is_begun = is_mine Begun begun

    fits : F right sizes s k k.committer.next s.words s.homes p (held id Begun)
    fits = mine Begun begun

    empty : get_elem? s.homes I ≡ some (some None)
    empty = ⊎_elim (λ e. e.1)
        (λ g. let r = reach right sizes s k g.0 (k.status g.0) g.2 (k.each_page g.0) in let m = fits in
        absurd (subst HasPlace (ap k.status (same_page sizes.ahead k.committer.count g.0 p r.0 r.1 m.1.0 m.1.1 g.1) ∙ is_begun) g.2))
        (k.each_place I (mod-lt (p - 1) k.some_place))

    abbrev W : HandView
    W = record h { ticket = Held Placing p }

    seized : Kept right sizes (record { words = set s.words (I + 2) mark; homes = set s.homes I none; views = set s.views id (Hand W) })
    seized = let m = fits in let a = m.0.0 in
        placed right sizes s k p m.1.0 m.1.1 (held id Placing) id (Hand h) (Hand W) at k.committer.next mark none (record {
          page_fits = (
            (omega (arith, last_same right sizes s k p m.1.0 m.1.1 (held id Placing) id (Hand h) (Hand W) at k.committer.next mark none), m.0.1),
            m.1,
            (word_here right sizes s k p m.1.0 m.1.1 (held id Placing) id (Hand h) (Hand W) at k.committer.next mark none, home_here right sizes s k p m.1.0 m.1.1 (held id Placing) id (Hand h) (Hand W) at k.committer.next mark none),
          );
          filled = inl tt;
          next_stays = inr refl;
          next_page = next_kept k.status _ p (k.committer.count + 1) (new_else right sizes s k p (held id Placing) id (Hand h) (Hand W) at k.committer.next (set s.words (I + 2) mark) (set s.homes I none)) (λ e. let u = is_begun in cc) (λ e. let u = is_begun in cc) k.committer.next k.next_page;
          first_seat = first_stays right sizes s k id h (Hand W) at;
          only_seat = λ c e. absurd (not_committer W c e);
          own_before = λ q g e. (let b = begun in cc);
          page_before = λ j g e. (let u = is_begun in cc);
          page_after = λ j g e. (cc, cc);
          own_after = λ q g e. (cc, cc);
          overs = refl;
          hands = refl;
          draws = sym (ap draws_of is_begun);
          drawn = refl;
          finished_step = same_count right sizes s k p (held id Placing) id (Hand h) (Hand W) at k.committer.next (set s.words (I + 2) mark) (set s.homes I none) finishes_of (sym (ap finishes_of is_begun)) h.finished;
          own_step = λ q. (let o = k.own id (Hand h) at q in let a : times q (pages_in h.ticket) ≡ times q (p ∷ []) = ap (λ (t : Ticket). times q (pages_in t)) begun in omega arith);
        })

  module _ (placing : h.ticket ≡ Held Placing p) (piece : C) (good : right p piece) where
    is_placing : k.status p ≡ held id Placing
    is_placing = is_mine Placing placing

    held_fits : F right sizes s k k.committer.next s.words s.homes p (held id Placing)
    held_fits = mine Placing placing

    abbrev V : HandView
    V = record h { ticket = Free; finished = p ∷ h.finished }

    abbrev home : maybe.Option (Option C)
    home = some (Some piece)

    laid : Kept right sizes (record { words = set s.words (I + 2) p; homes = set s.homes I home; views = set s.views id (Hand V) })
    laid = let m = held_fits in let a = m.0.0 in
        placed right sizes s k p m.1.0 m.1.1 lying id (Hand h) (Hand V) at k.committer.next p home (record {
          page_fits = (
            (omega (arith, last_same right sizes s k p m.1.0 m.1.1 lying id (Hand h) (Hand V) at k.committer.next p home), m.0.1),
            m.1,
            (piece, good, (word_here right sizes s k p m.1.0 m.1.1 lying id (Hand h) (Hand V) at k.committer.next p home, home_here right sizes s k p m.1.0 m.1.1 lying id (Hand h) (Hand V) at k.committer.next p home)),
          );
          filled = inl tt;
          next_stays = inr refl;
          next_page = next_kept k.status _ p (k.committer.count + 1) (new_else right sizes s k p lying id (Hand h) (Hand V) at k.committer.next (set s.words (I + 2) p) (set s.homes I home)) (λ e. let u = is_placing in cc) (λ e. let u = is_placing in cc) k.committer.next k.next_page;
          first_seat = first_stays right sizes s k id h (Hand V) at;
          only_seat = λ c e. absurd (not_committer V c e);
          own_before = λ q g e. (let b = placing in cc);
          page_before = λ j g e. (let u = is_placing in cc);
          page_after = λ j g e. absurd (cc);
          own_after = λ q g e. absurd (no_ticket g q e);
          overs = refl;
          hands = refl;
          draws = sym (ap draws_of is_placing);
          drawn = refl;
          finished_step = more_count right sizes s k p lying id (Hand h) (Hand V) at k.committer.next (set s.words (I + 2) p) (set s.homes I home) finishes_of (ap finishes_of is_placing) refl h.finished;
          own_step = λ q. (let o = k.own id (Hand h) at q in let a : times q (pages_in h.ticket) ≡ times q (p ∷ []) = ap (λ (t : Ticket). times q (pages_in t)) placing in let m = times_more p q h.finished in omega arith);
        })

back : (i : ℕ) → i + 2 - 2 ≡ i
back i = omega arith

-- the hand takes the place of its page, which is empty
pub seizes : {C : Type 0} (right : ℕ → C → Type 0) (sizes : Sizes) (slots id : ℕ) (h : HandView) (c : List (ℕ × Option C)) → h.ticket ≡ Held Begun (page_of h.ticket)
    → Allows (Kept right sizes) slots id (Hand h, c) (place_of sizes.ahead (page_of h.ticket) + 2) (λ _. mark) (Seizes (step slots (place_of sizes.ahead (page_of h.ticket) + 2) mark 0 none) (Hand h, c))
seizes right sizes slots id h c begun s k wide at small =
    let p : ℕ = page_of h.ticket in
    (Hand (record h { ticket = Held Placing p }), takes (place_of sizes.ahead p) None, empty right sizes s k id h at p begun, seized right sizes s k id h at p begun, ap (λ (i : ℕ). (Hand (record h { ticket = Held Placing p }), (i, None) ∷ c)) (sym (back (place_of sizes.ahead p))))

-- the hand gives the place back with the piece, and has no page
pub lays : {C : Type 0} (right : ℕ → C → Type 0) (sizes : Sizes) (slots id : ℕ) (h : HandView) (c : List (ℕ × Option C)) (p : ℕ) (piece : C) → h.ticket ≡ Held Placing p → right p piece
    → Allows (Kept right sizes) slots id (Hand h, (place_of sizes.ahead p, Some piece) ∷ c) (place_of sizes.ahead p + 2) (λ _. p) (Lays (step slots (place_of sizes.ahead p + 2) p 0 none) (Hand h, (place_of sizes.ahead p, Some piece) ∷ c))
lays right sizes slots id h c p piece placing good s k wide at small =
    (Hand (record h { ticket = Free; finished = p ∷ h.finished }), gives, tt, laid right sizes s k id h at p placing piece good, ap (λ (n : ℕ). (Hand (record h { ticket = Free; finished = n ∷ h.finished }), c)) (sym (ap page_of placing)))
