-- Hands are split and come back, and the rule at the start.
use Rattle.std.proofs.Common.{◌≡◌, ◌≢◌, ℕ, suc, zero, ◌+◌, ◌^◌, ◌<◌, ◌≤◌, inl, List, [], ◌∷◌, ◌++◌, map, get_or, set, replicate, false, refl, sym, ap, ◌∙◌, subst, sum_by, arith, ⊎_elim, ◌==◌}
use Rattle.std.proofs.lemmas.List.{length-replicate, length-map}
use Rattle.std.specs.Prelude.{Option, None, if◌then◌else◌}
use mathlib.Core.Option.{some, none, some-injective}
use mathlib.Core.Option as maybe
use lib.ListN.{get_elem?}
use Rattle.std.proofs.lemmas.List.Sums.{sum_by-append, sum_by-cons}
use Rattle.atomic_table.specs.Table.{State, Splits, Joins, opening}
use Rattle.atomic_table.proofs.Lists.{at_set, at_snoc, at_longer, set_here, set_else}
use Rattle.commit_places.specs.declared.view.Sizes.{Sizes}
use Rattle.commit_places.specs.declared.view.Stage.{Stage}
use Rattle.commit_places.specs.declared.view.Ticket.TheVariants.{Free}
use Rattle.commit_places.specs.declared.view.HandView.{HandView}
use Rattle.commit_places.specs.declared.view.CommitterView.{CommitterView}
use Rattle.commit_places.specs.declared.view.View.{View}
use Rattle.commit_places.specs.declared.view.View.TheVariants.{Committer, Hand, Joined}
use Rattle.commit_places.specs.Rule.{Status, undrawn, held, gone, ticket_of, ticket_at, hands_of, overs_of, Fits, Kept, times, drawn_by, finished_by, draws_of, finishes_of, pages_in}
use Rattle.commit_places.specs.Steps.{first_committer, new_hand, committer_splitting, committer_joining}
use Rattle.commit_places.proofs.Basics.{got, sum_put, tickets_stay, no_ticket}
use Rattle.commit_places.proofs.Hands.{overs_few, not_committer}

-- what a seat finished and has, it drew
abbrev Own : ℕ → View → Type 0
Own q u = times q (finished_by u) + times q (pages_in (ticket_of u)) ≤ times q (drawn_by u)

-- a seat at the end that has no ticket changes no ticket
tickets_snoc : (views : List View) (w : View) → ticket_of w ≡ Free → (j : ℕ) → ticket_at (views ++ w ∷ []) j ≡ ticket_at views j
tickets_snoc [] w free zero = free
tickets_snoc [] w free (suc j) = refl
tickets_snoc (v ∷ views) w free zero = refl
tickets_snoc (v ∷ views) w free (suc j) = tickets_snoc views w free j

module _ {C : Type 0} (right : ℕ → C → Type 0) (sizes : Sizes) (s : State (Option C) View) (k : Kept right sizes s) where
  -- the views change, and each ticket stays
  views_change : (views : List View) (hands over other : ℕ) (ds fs : List ℕ)
      → get_elem? views 0 ≡ some (Committer (record k.committer { hands = hands; joined_over = over; joined = other; drawn = ds; finished = fs }))
      → ((j : ℕ) (c : CommitterView) → get_elem? views j ≡ some (Committer c) → j ≡ 0)
      → ((j : ℕ) → ticket_at views j ≡ ticket_at s.views j)
      → sum_by overs_of views ≡ sum_by overs_of s.views → sum_by hands_of views ≡ hands → hands ≤ sizes.workers + 1
      → ((q : ℕ) → sum_by (λ (u : View). times q (drawn_by u)) views ≡ sum_by (λ (u : View). times q (drawn_by u)) s.views)
      → ((q : ℕ) → sum_by (λ (u : View). times q (finished_by u)) views ≡ sum_by (λ (u : View). times q (finished_by u)) s.views)
      → ((j : ℕ) (u : View) → get_elem? views j ≡ some u → (q : ℕ) → times q (finished_by u) + times q (pages_in (ticket_of u)) ≤ times q (drawn_by u))
      → Kept right sizes (record { words = s.words; homes = s.homes; views = views })
  views_change views hands over other ds fs first only same overs counted few drawn finished own = record {
    status = k.status;
    committer = record k.committer { hands = hands; joined_over = over; joined = other; drawn = ds; finished = fs };
    some_place = k.some_place;
    small = k.small;
    word_count = k.word_count;
    place_count = k.place_count;
    first_seat = first;
    only_seat = only;
    count_is = k.count_is;
    count_fits = k.count_fits;
    each_page = k.each_page;
    next_page = k.next_page;
    each_place = k.each_place;
    held_is = λ q j g e. same j ∙ k.held_is q j g e;
    ticket_is = λ q j g e. k.ticket_is q j g (sym (same j) ∙ e);
    overs = overs ∙ k.overs;
    hands = counted;
    hands_fit = few;
    drawn_once = λ q some_page. drawn q ∙ k.drawn_once q some_page;
    finished_once = λ q some_page. finished q ∙ k.finished_once q some_page;
    own = own;
  }

  -- the committer's seat is the first, and has its view
  pub committer_is : (id : ℕ) (b : CommitterView) → get_elem? s.views id ≡ some (Committer b) → (id ≡ 0) × (k.committer ≡ b)
  committer_is id b at = let zero' = k.only_seat id b at in (zero', inside (some-injective (Committer k.committer) (Committer b) (sym k.first_seat ∙ ap (λ (i : ℕ). get_elem? s.views i) (sym zero') ∙ at)))
    where
      inside : Committer k.committer ≡ Committer b → k.committer ≡ b
      inside e = cc

  split_at : (b : CommitterView) → k.committer ≡ b → get_elem? s.views 0 ≡ some (Committer b) → b.hands ≤ sizes.workers
      → Kept right sizes (record { words = s.words; homes = s.homes; views = set s.views 0 (Committer (committer_splitting b)) ++ Hand (new_hand b.sizes) ∷ [] })
  split_at b is at room =
      let v : View = Committer b in
      let w : View = Committer (committer_splitting b) in
      let n : View = Hand (new_hand b.sizes) in
      let there = got s.views 0 v Joined at in
      let first = at_longer (set s.views 0 w) (n ∷ []) 0 w (set_here s.views 0 w there.0) in
      views_change (set s.views 0 w ++ n ∷ []) (b.hands + 1) b.joined_over b.joined b.drawn b.finished
      (first ∙ ap (λ (x : CommitterView). some (Committer (record x { hands = b.hands + 1; joined_over = b.joined_over; joined = b.joined; drawn = b.drawn; finished = b.finished }))) (sym is))
      (λ j c e. ⊎_elim (λ l. ⊎_elim (λ y. y.0) (λ y. k.only_seat j c y.1) (at_set s.views 0 j w (Committer c) l)) (λ r. absurd (not_committer (new_hand b.sizes) c r)) (at_snoc (set s.views 0 w) n (Committer c) j e))
      (λ j. tickets_snoc (set s.views 0 w) n refl j ∙ tickets_stay s.views 0 v w at refl j)
      (omega (arith, sum_by-append overs_of (set s.views 0 w) (n ∷ []), sum_by-cons overs_of n [], sum_put overs_of s.views 0 v w at))
      (let h = k.hands in let e = ap (λ (x : CommitterView). x.hands) is in omega (arith, sum_by-append hands_of (set s.views 0 w) (n ∷ []), sum_by-cons hands_of n [], sum_put hands_of s.views 0 v w at))
      (omega arith)
      (λ q. omega (arith, sum_by-append (λ (u : View). times q (drawn_by u)) (set s.views 0 w) (n ∷ []), sum_by-cons (λ (u : View). times q (drawn_by u)) n [], sum_put (λ (u : View). times q (drawn_by u)) s.views 0 v w at))
      (λ q. omega (arith, sum_by-append (λ (u : View). times q (finished_by u)) (set s.views 0 w) (n ∷ []), sum_by-cons (λ (u : View). times q (finished_by u)) n [], sum_put (λ (u : View). times q (finished_by u)) s.views 0 v w at))
      (λ j u e q. ⊎_elim (λ l. ⊎_elim (λ y. subst (Own q) y.1 (k.own 0 v at q)) (λ y. k.own j u y.1 q) (at_set s.views 0 j w u l)) (λ r. subst (Own q) r (omega arith)) (at_snoc (set s.views 0 w) n u j e))

  join_at : (b : CommitterView) (other : ℕ) (h : HandView) → k.committer ≡ b → get_elem? s.views 0 ≡ some (Committer b) → h.ticket ≡ Free → other ≢ 0
      → get_elem? (set s.views 0 (Committer (committer_joining (Hand h) b))) other ≡ some (Hand h)
      → Kept right sizes (record { words = s.words; homes = s.homes; views = set (set s.views 0 (Committer (committer_joining (Hand h) b))) other Joined })
  join_at b other h is at free apart there =
      let v : View = Committer b in
      let both : CommitterView = committer_joining (Hand h) b in
      let w : View = Committer both in
      let at0 = got s.views 0 v Joined at in
      let views = set s.views 0 w in
      let few = overs_few (Hand h) in
      views_change (set views other Joined) b.hands both.joined_over both.joined both.drawn both.finished
      (set_else views other 0 Joined (λ e. apart (sym e)) ∙ set_here s.views 0 w at0.0 ∙ ap (λ (x : CommitterView). some (Committer (record x { hands = b.hands; joined_over = both.joined_over; joined = both.joined; drawn = both.drawn; finished = both.finished }))) (sym is))
      (λ j c e. ⊎_elim (λ l. absurd (joined_committer c l.1)) (λ r. ⊎_elim (λ y. y.0) (λ y. k.only_seat j c y.1) (at_set s.views 0 j w (Committer c) r.1)) (at_set views other j Joined (Committer c) e))
      (λ j. tickets_stay views other (Hand h) Joined there (sym free) j ∙ tickets_stay s.views 0 v w at refl j)
      (omega (arith, sum_put overs_of views other (Hand h) Joined there, sum_put overs_of s.views 0 v w at))
      (let l = k.hands in let e = ap (λ (x : CommitterView). x.hands) is in omega (arith, sum_put hands_of views other (Hand h) Joined there, sum_put hands_of s.views 0 v w at))
      (let e = ap (λ (x : CommitterView). x.hands) is in let f = k.hands_fit in omega arith)
      (λ q. omega (arith, sum_put (λ (u : View). times q (drawn_by u)) views other (Hand h) Joined there, sum_put (λ (u : View). times q (drawn_by u)) s.views 0 v w at, sum_by-append (λ (p : ℕ). if (p == q) then 1 else 0) h.drawn b.drawn))
      (λ q. omega (arith, sum_put (λ (u : View). times q (finished_by u)) views other (Hand h) Joined there, sum_put (λ (u : View). times q (finished_by u)) s.views 0 v w at, sum_by-append (λ (p : ℕ). if (p == q) then 1 else 0) h.finished b.finished))
      (λ j u e q. ⊎_elim (λ l. subst (Own q) l.1 (omega arith))
      (λ r. ⊎_elim (λ y. subst (Own q) y.1 (let mine = k.own 0 v at q in let its = k.own other (Hand h) (sym (set_else s.views 0 other w apart) ∙ there) q in omega (arith, sum_by-append (λ (p : ℕ). if (p == q) then 1 else 0) h.drawn b.drawn, sum_by-append (λ (p : ℕ). if (p == q) then 1 else 0) h.finished b.finished)))
      (λ y. k.own j u y.1 q) (at_set s.views 0 j w u r.1)) (at_set views other j Joined u e))
    where
      joined_committer : (c : CommitterView) → Joined ≡ Committer c → ⊥
      joined_committer c e = cc

-- a hand is split where there may be one more
pub splits : {C : Type 0} (right : ℕ → C → Type 0) (sizes : Sizes) (id : ℕ) (b : CommitterView) → b.hands ≤ sizes.workers → Splits (Kept right sizes) id (Committer b) (Committer (committer_splitting b)) (Hand (new_hand b.sizes))
splits right sizes id b room s k at =
    let is = committer_is right sizes s k id b at in
    subst (λ (i : ℕ). Kept right sizes (record { words = s.words; homes = s.homes; views = set s.views i (Committer (committer_splitting b)) ++ Hand (new_hand b.sizes) ∷ [] })) (sym is.0)
    (split_at right sizes s k b is.1 (ap (λ (i : ℕ). get_elem? s.views i) (sym is.0) ∙ at) room)

-- a hand with no ticket comes back
pub joins : {C : Type 0} (right : ℕ → C → Type 0) (sizes : Sizes) (id : ℕ) (b : CommitterView) (other : ℕ) (h : HandView) → h.ticket ≡ Free → Joins (Kept right sizes) id (Committer b) other (Hand h) (Committer (committer_joining (Hand h) b)) Joined
joins right sizes id b other h free s k at apart there =
    let is = committer_is right sizes s k id b at in
    let w : View = Committer (committer_joining (Hand h) b) in
    subst (λ (i : ℕ). Kept right sizes (record { words = s.words; homes = s.homes; views = set (set s.views i w) other Joined })) (sym is.0)
    (join_at right sizes s k b other h is.1 (ap (λ (i : ℕ). get_elem? s.views i) (sym is.0) ∙ at) free (λ e. apart (e ∙ sym is.0)) (ap (λ (i : ℕ). get_elem? (set s.views i w) other) (sym is.0) ∙ there))

zeros : (n i : ℕ) → get_or {A = ℕ} (replicate n 0) i 0 ≡ 0
zeros zero i = refl
zeros (suc n) zero = refl
zeros (suc n) (suc i) = zeros n i

empties : {C : Type 0} (n i : ℕ) → i < n → get_elem? (map (λ (x : Option C). some x) (replicate n None)) i ≡ some (some None)
empties zero i lt = absurd (omega arith)
empties (suc n) zero lt = refl
empties (suc n) (suc i) lt = empties n i (omega arith)

-- page 0 is no page, and the others aren't drawn
abbrev first_status : ℕ → Status
first_status zero = gone
first_status (suc q) = undrawn

-- at the start
pub opens : {C : Type 0} (right : ℕ → C → Type 0) (sizes : Sizes) → 0 < sizes.ahead → sizes.pages + sizes.workers < 2 ^ 32
    → Kept right sizes (opening (replicate (sizes.ahead + 2) 0) (replicate sizes.ahead None) (Committer (first_committer sizes)))
opens {C} right sizes some_place small = record {
  status = first_status;
  committer = first_committer sizes;
  some_place = some_place;
  small = small;
  word_count = length-replicate (sizes.ahead + 2) 0;
  place_count = length-map _ _ ∙ length-replicate sizes.ahead None;
  first_seat = refl;
  only_seat = only;
  count_is = zeros (sizes.ahead + 2) 1;
  count_fits = (omega arith, omega arith);
  each_page = page;
  next_page = tt;
  each_place = λ i lt. inl (zeros (sizes.ahead + 2) (i + 2), empties sizes.ahead i lt);
  held_is = λ q j g e. absurd (no_held q j g e);
  ticket_is = λ q j g e. absurd (no_ticket g q (sym (none_at j) ∙ e));
  overs = omega (arith, zeros (sizes.ahead + 2) 0);
  hands = refl;
  hands_fit = omega arith;
  drawn_once = none_drawn;
  finished_once = none_finished;
  own = own;
}
  where
    views : List View
    views = Committer (first_committer sizes) ∷ []

    only : (j : ℕ) (c : CommitterView) → get_elem? views j ≡ some (Committer c) → j ≡ 0
    only zero c e = refl
    only (suc j) c e = absurd (maybe.some-ne-none (Committer c) (sym e))

    page : (q : ℕ) → Fits right sizes 0 (first_committer sizes).next false (replicate (sizes.ahead + 2) 0) (map some (replicate sizes.ahead None)) q (first_status q)
    page zero = ((omega arith, omega arith), inl (omega arith))
    page (suc q) = inl (omega (arith, zeros (sizes.ahead + 2) 0))

    no_held : (q j : ℕ) (g : Stage) → first_status q ≡ held j g → ⊥
    no_held zero j g e = cc
    no_held (suc q) j g e = cc

    none_at : (j : ℕ) → ticket_at views j ≡ Free
    none_at zero = refl
    none_at (suc j) = refl

    none_drawn : (q : ℕ) → 0 < q → sum_by (λ (u : View). times q (drawn_by u)) views ≡ draws_of (first_status q)
    none_drawn zero pos = absurd (omega arith)
    none_drawn (suc q) pos = refl

    none_finished : (q : ℕ) → 0 < q → sum_by (λ (u : View). times q (finished_by u)) views ≡ finishes_of (first_status q)
    none_finished zero pos = absurd (omega arith)
    none_finished (suc q) pos = refl

    own : (j : ℕ) (u : View) → get_elem? views j ≡ some u → (q : ℕ) → Own q u
    own zero u e q = subst (Own q) (some-injective (Committer (first_committer sizes)) u e) (omega arith)
    own (suc j) u e q = absurd (maybe.some-ne-none u (sym e))
