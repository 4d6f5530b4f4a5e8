-- A look at the count keeps the rule.
use Rattle.std.proofs.Common.{◌≡◌, ◌≢◌, ℕ, ◌+◌, ◌<◌, ◌≤◌, inl, inr, List, get_or, set, Bool, true, false, nat_le, refl, sym, ap, ◌∙◌, subst, arith, ⊎_elim, [], ◌∷◌}
use Rattle.std.specs.Prelude.{Option, if◌then◌else◌}
use mathlib.Core.Option.{some, none}
use lib.ListN.{get_elem?}
use Rattle.std.proofs.lemmas.List.{set-get_or}
use Rattle.atomic_table.specs.Table.{State, step, Act, keeps, Valid, carried_after, homes_after, Allows}
use Rattle.atomic_table.proofs.Lists.{set_again}
use Rattle.commit_places.specs.declared.view.Sizes.{Sizes}
use Rattle.commit_places.specs.declared.view.Stage.{Stage}
use Rattle.commit_places.specs.declared.view.Stage.TheVariants.{Drawn, Begun}
use Rattle.commit_places.specs.declared.view.Ticket.{Ticket}
use Rattle.commit_places.specs.declared.view.Ticket.TheVariants.{Free, Held}
use Rattle.commit_places.specs.declared.view.HandView.{HandView}
use Rattle.commit_places.specs.declared.view.View.{View}
use Rattle.commit_places.specs.declared.view.View.TheVariants.{Hand}
use Rattle.commit_places.specs.Rule.{Status, held, lost, mark, HasPlace, overs_of, times, draws_of, finishes_of, pages_in, Kept}
use Rattle.commit_places.specs.Steps.{page_of, Looks}
use Rattle.commit_places.proofs.Basics.{le_is, gt_is, no_ticket, ticket_now}
use Rattle.commit_places.proofs.Frame.{F, new, new_else, same_count, turned}
use Rattle.commit_places.proofs.Hands.{not_committer, first_stays, next_kept}

module _ {C : Type 0} (right : ℕ → C → Type 0) (sizes : Sizes) (s : State (Option C) View) (k : Kept right sizes s)
    (id : ℕ) (h : HandView) (at : get_elem? s.views id ≡ some (Hand h)) (p : ℕ) (drawn : h.ticket ≡ Held Drawn p) where
  is_mine : k.status p ≡ held id Drawn
  is_mine = k.ticket_is p id Drawn (ticket_now s.views id (Hand h) (Hand h) at ∙ drawn)

  mine : F right sizes s k k.committer.next s.words s.homes p (held id Drawn)
  mine = subst (λ (y : Status). F right sizes s k k.committer.next s.words s.homes p y) is_mine (k.each_page p)

  -- the hand's page gets the status x, and the hand the view w
  module _ (x : Status) (w : HandView) where
    abbrev St : ℕ → Status
    St = new right sizes s k p x id (Hand h) (Hand w) at k.committer.next s.words s.homes

    apart : (q : ℕ) → q ≢ p → St q ≡ k.status q
    apart = new_else right sizes s k p x id (Hand h) (Hand w) at k.committer.next s.words s.homes

    looked : (fits : F right sizes s k k.committer.next s.words s.homes p x)
        → ((j : ℕ) (g : Stage) → x ≡ held j g → (j ≡ id) × (w.ticket ≡ Held g p))
        → ((q : ℕ) (g : Stage) → w.ticket ≡ Held g q → (q ≡ p) × (x ≡ held id g))
        → w.is_over ≡ h.is_over
        → draws_of x ≡ 1 → finishes_of x ≡ 0 → (w.drawn ≡ h.drawn) × (w.finished ≡ h.finished)
        → ((q : ℕ) → times q (pages_in w.ticket) ≤ times q (p ∷ []))
        → Kept right sizes (record { words = s.words; homes = s.homes; views = set s.views id (Hand w) })
    looked fits after own over draws finishes lists fewer = turned right sizes s k p x id (Hand h) (Hand w) at k.committer.next s.words s.homes (record {
      word_count = refl;
      place_count = refl;
      more = omega arith;
      undrawn_stays = λ q ne above. inl above;
      count_same = refl;
      place_stays = λ q ne has. (refl, refl);
      place_fits = λ i lt. ⊎_elim (λ e. inl e) (λ g. inr (g.0, g.1, subst HasPlace (sym (apart g.0 (λ e. subst HasPlace (ap k.status e ∙ is_mine) g.2))) g.2)) (k.each_place i lt);
      page_fits = fits;
      next_stays = inr refl;
      next_page = next_kept k.status St p (k.committer.count + 1) apart (λ e. let u = is_mine in cc) (λ e. let u = is_mine in cc) k.committer.next k.next_page;
      first_seat = first_stays right sizes s k id h (Hand w) at;
      only_seat = λ c e. absurd (not_committer w c e);
      own_before = λ q g e. (let d = drawn in cc);
      page_before = λ j g e. (let u = is_mine in cc);
      page_after = after;
      own_after = own;
      overs = (let same : overs_of (Hand w) ≡ overs_of (Hand h) = ap (λ (b : Bool). if b then 1 else 0) over in omega arith);
      hands = refl;
      drawn_step = λ q. subst (λ (l : List ℕ). times q l + draws_of (k.status q) ≡ times q h.drawn + draws_of (St q)) (sym lists.0) (same_count right sizes s k p x id (Hand h) (Hand w) at k.committer.next s.words s.homes draws_of (draws ∙ sym (ap draws_of is_mine)) h.drawn q);
      finished_step = λ q. subst (λ (l : List ℕ). times q l + finishes_of (k.status q) ≡ times q h.finished + finishes_of (St q)) (sym lists.1) (same_count right sizes s k p x id (Hand h) (Hand w) at k.committer.next s.words s.homes finishes_of (finishes ∙ sym (ap finishes_of is_mine)) h.finished q);
      own_step = λ q. (let o = k.own id (Hand h) at q in let a : times q (pages_in h.ticket) ≡ times q (p ∷ []) = ap (λ (t : Ticket). times q (pages_in t)) drawn in let b = fewer q in let c = ap (times q) lists.0 in let d = ap (times q) lists.1 in omega arith);
    })

  -- what word 1 says of the count
  word_of : (b : Bool) → k.committer.is_stopped ≡ b → get_or s.words 1 0 ≡ (if b then mark else k.committer.count)
  word_of b e = k.count_is ∙ ap (λ (y : Bool). if y then mark else k.committer.count) e

  halted : (b : Bool) → k.committer.is_stopped ≡ b → mark ≤ get_or s.words 1 0 → b ≡ true
  halted true e m = refl
  halted false e m = absurd (let w : get_or s.words 1 0 ≡ k.committer.count = word_of false e in let c = k.count_fits.1 in let l = k.small in omega arith)

  runs : (b : Bool) → k.committer.is_stopped ≡ b → get_or s.words 1 0 < mark → get_or s.words 1 0 ≡ k.committer.count
  runs true e m = absurd (let w : get_or s.words 1 0 ≡ mark = word_of true e in omega arith)
  runs false e m = word_of false e

  ends : mark ≤ get_or s.words 1 0 → Kept right sizes (record { words = s.words; homes = s.homes; views = set s.views id (Hand (record h { ticket = Free })) })
  ends m = looked lost (record h { ticket = Free }) (mine.0, halted k.committer.is_stopped refl m) (λ j g e. absurd (cc)) (λ q g e. absurd (no_ticket g q e)) refl refl refl (refl, refl) (λ q. omega arith)

  begins : get_or s.words 1 0 < mark → p ≤ get_or s.words 1 0 + sizes.ahead → Kept right sizes (record { words = s.words; homes = s.homes; views = set s.views id (Hand (record h { ticket = Held Begun p })) })
  begins m near = let c = runs k.committer.is_stopped refl m in
      looked (held id Begun) (record h { ticket = Held Begun p }) (mine.0, (mine.1, omega arith)) (λ j g e. (cc, cc)) (λ q g e. (cc, cc)) refl refl refl (refl, refl) (λ q. omega arith)

-- a page is begun only where it is in reach of the count
pub looks : {C : Type 0} (right : ℕ → C → Type 0) (sizes : Sizes) (slots id : ℕ) (h : HandView) (c : List (ℕ × Option C)) → h.ticket ≡ Held Drawn (page_of h.ticket) → h.sizes ≡ sizes
    → Allows (Kept right sizes) slots id (Hand h, c) 1 (λ n. n) (Looks (step slots 1 0 0 none) (Hand h, c))
looks {C} right sizes slots id h c drawn same s k wide at small =
    let n : ℕ = get_or s.words 1 0 in
    let p : ℕ = page_of h.ticket in
    let ahead : h.sizes.ahead ≡ sizes.ahead = ap (λ (y : Sizes). y.ahead) same in
    let stop : HandView = record h { ticket = Free } in
    let go : HandView = record h { ticket = Held Begun p } in
    let Q : List ℕ → Type 0 = λ ws. (w : View) × (a : Act (Option C)) × Valid s.homes c a × Kept right sizes (record { words = ws; homes = homes_after s.homes c a; views = set s.views id w }) × Looks (step slots 1 0 0 none) (Hand h, c) n (w, carried_after c a) in
    let near : (b : Bool) → nat_le p (n + h.sizes.ahead) ≡ b → nat_le mark n ≡ false → Q s.words = elim [
      | true ↦ λ e f. (Hand go, keeps, tt, begins right sizes s k id h at p drawn (gt_is _ _ f) (let r : p ≤ n + h.sizes.ahead = le_is _ _ e in omega arith), λ i. (Hand (if (sym f i) then stop else if (sym e i) then go else h), c))
      | false ↦ λ e f. (Hand h, keeps, tt, subst (λ (vs : List View). Kept right sizes (record { words = s.words; homes = s.homes; views = vs })) (sym (set_again s.views id (Hand h) at)) k, λ i. (Hand (if (sym f i) then stop else if (sym e i) then go else h), c))
    ] in
    let cases : (b : Bool) → nat_le mark n ≡ b → Q s.words = elim [
      | true ↦ λ e. (Hand stop, keeps, tt, ends right sizes s k id h at p drawn (le_is _ _ e), λ i. (Hand (if (sym e i) then stop else if (nat_le p (n + h.sizes.ahead)) then go else h), c))
      | false ↦ λ e. near (nat_le p (n + h.sizes.ahead)) refl e
    ] in
    subst Q (sym (set-get_or s.words 1 0)) (cases (nat_le mark n) refl)
