-- The count rises, and the work is stopped: both keep the rule.
use Rattle.std.proofs.Common.{◌≡◌, ℕ, ◌+◌, ◌<◌, ◌≤◌, inl, inr, List, get_or, set, Bool, true, false, max, refl, sym, ap, ◌∙◌, subst, arith, length-set, get_or-set_same, get_or-set_other, ⊎_elim}
use Rattle.std.specs.Prelude.{Option, if◌then◌else◌}
use mathlib.Core.Option.{some, none}
use lib.ListN.{get_elem?}
use Rattle.atomic_table.specs.Table.{State, step, keeps, Allows}
use Rattle.atomic_table.proofs.Lists.{at_set, set_here}
use Rattle.commit_places.specs.declared.view.Sizes.{Sizes}
use Rattle.commit_places.specs.declared.view.Stage.TheVariants.{Drawn, Begun, Placing}
use Rattle.commit_places.specs.declared.view.Next.{Next}
use Rattle.commit_places.specs.declared.view.Next.TheVariants.{Waiting, Taken}
use Rattle.commit_places.specs.declared.view.CommitterView.{CommitterView}
use Rattle.commit_places.specs.declared.view.View.{View}
use Rattle.commit_places.specs.declared.view.View.TheVariants.{Committer, Joined}
use Rattle.commit_places.specs.Rule.{Status, undrawn, held, lying, taking, gone, lost, mark, place_of, hands_of, overs_of, Fits, NextFits, Kept, times, drawn_by, finished_by, pages_in, ticket_of}
use Rattle.commit_places.specs.Steps.{Commits, Stops}
use Rattle.commit_places.proofs.Basics.{by_eq, got, sum_put, tickets_stay}
use Rattle.commit_places.proofs.Roster.{committer_is}

module _ {C : Type 0} (right : ℕ → C → Type 0) (sizes : Sizes) (s : State (Option C) View) (k : Kept right sizes s) (b : CommitterView) (is : k.committer ≡ b)
    (at : get_elem? s.views 0 ≡ some (Committer b)) (n : ℕ) where
  abbrev Words : List ℕ
  Words = set s.words 1 n

  last_same : get_or Words 0 0 ≡ get_or s.words 0 0
  last_same = get_or-set_other s.words 1 0 n 0 (λ e. omega arith)

  place_same : (i : ℕ) → get_or Words (i + 2) 0 ≡ get_or s.words (i + 2) 0
  place_same i = get_or-set_other s.words 1 (i + 2) n 0 (λ e. omega arith)

  abbrev Old : ℕ → Status → Type 0
  Old = Fits right sizes b.count b.next b.is_stopped s.words s.homes

  old_fits : (q : ℕ) → Old q (k.status q)
  old_fits q = subst (λ (c : CommitterView). Fits right sizes c.count c.next c.is_stopped s.words s.homes q (k.status q)) is (k.each_page q)

  range : (q : ℕ) → (q ≤ get_or s.words 0 0) × (q ≤ sizes.pages) → (q ≤ get_or Words 0 0) × (q ≤ sizes.pages)
  range q h = let a = h.0 in (omega (arith, last_same), h.1)

  -- the committer's numbers change, and each page's status fits as before
  counted : (w : CommitterView) → hands_of (Committer w) ≡ hands_of (Committer b) → overs_of (Committer w) ≡ overs_of (Committer b) → w.hands ≡ b.hands → (w.drawn ≡ b.drawn) × (w.finished ≡ b.finished)
      → n ≡ (if w.is_stopped then mark else w.count)
      → (w.count ≤ get_or s.words 0 0) × (w.count ≤ sizes.pages)
      → ((q : ℕ) → Fits right sizes w.count w.next w.is_stopped Words s.homes q (k.status q))
      → NextFits w.next (k.status (w.count + 1))
      → Kept right sizes (record { words = Words; homes = s.homes; views = set s.views 0 (Committer w) })
  counted w same_hands same_overs hands lists is_n fits pages next =
      let v : View = Committer b in
      let there = got s.views 0 v Joined at in
      record {
        status = k.status;
        committer = w;
        some_place = k.some_place;
        small = k.small;
        word_count = length-set s.words 1 n ∙ k.word_count;
        place_count = k.place_count;
        first_seat = set_here s.views 0 (Committer w) there.0;
        only_seat = λ j c e. ⊎_elim (λ l. l.0) (λ r. k.only_seat j c r.1) (at_set s.views 0 j (Committer w) (Committer c) e);
        count_is = get_or-set_same s.words 1 n 0 (omega (arith, k.word_count)) ∙ is_n;
        count_fits = range w.count fits;
        each_page = pages;
        next_page = next;
        each_place = λ i lt. ⊎_elim (λ e. inl (place_same i ∙ e.0, e.1)) (λ g. inr g) (k.each_place i lt);
        held_is = λ q j g e. tickets_stay s.views 0 v (Committer w) at refl j ∙ k.held_is q j g e;
        ticket_is = λ q j g e. k.ticket_is q j g (sym (tickets_stay s.views 0 v (Committer w) at refl j) ∙ e);
        overs = (let o = k.overs in omega (arith, last_same, sum_put overs_of s.views 0 v (Committer w) at));
        hands = (let h = k.hands in let e = ap (λ (x : CommitterView). x.hands) is in omega (arith, sum_put hands_of s.views 0 v (Committer w) at));
        drawn_once = λ q some_page. (let a = sum_put (λ (u : View). times q (drawn_by u)) s.views 0 v (Committer w) at in let o = k.drawn_once q some_page in let c = ap (times q) lists.0 in omega arith);
        finished_once = λ q some_page. (let a = sum_put (λ (u : View). times q (finished_by u)) s.views 0 v (Committer w) at in let o = k.finished_once q some_page in let c = ap (times q) lists.1 in omega arith);
        own = λ j u e q. ⊎_elim (λ l. subst (λ (y : View). times q (finished_by y) + times q (pages_in (ticket_of y)) ≤ times q (drawn_by y)) l.1 (let o = k.own 0 v at q in let c = ap (times q) lists.0 in let d = ap (times q) lists.1 in omega arith)) (λ r. k.own j u r.1 q) (at_set s.views 0 j (Committer w) u e);
        hands_fit = (let h = k.hands_fit in let e = ap (λ (x : CommitterView). x.hands) is in omega arith);
      }

  stops : (q : ℕ) (y : Status) → Old q y → Fits right sizes b.count b.next true Words s.homes q y
  stops q undrawn h = ⊎_elim (λ l. inl (omega (arith, last_same, l))) (λ r. inr r) h
  stops q (held j Drawn) h = (range q h.0, h.1)
  stops q (held j Begun) h = (range q h.0, h.1)
  stops q (held j Placing) h = (range q h.0, h.1, (place_same (place_of sizes.ahead q) ∙ h.2.0, h.2.1))
  stops q lying h = (range q h.0, h.1, (h.2.0, h.2.1, (place_same (place_of sizes.ahead q) ∙ h.2.2.0, h.2.2.1)))
  stops q taking h = (range q h.0, h.1, h.2, (place_same (place_of sizes.ahead q) ∙ h.3.0, h.3.1))
  stops q gone h = (range q h.0, h.1)
  stops q lost h = (range q h.0, refl)

  next_is : NextFits b.next (k.status (b.count + 1))
  next_is = subst (λ (c : CommitterView). NextFits c.next (k.status (c.count + 1))) is k.next_page

  counts_fit : (b.count ≤ get_or s.words 0 0) × (b.count ≤ sizes.pages)
  counts_fit = subst (λ (c : CommitterView). (c.count ≤ get_or s.words 0 0) × (c.count ≤ sizes.pages)) is k.count_fits

  pub stopped : n ≡ mark → Kept right sizes (record { words = Words; homes = s.homes; views = set s.views 0 (Committer (record b { is_stopped = true })) })
  stopped n_is = counted (record b { is_stopped = true }) refl refl refl (refl, refl) n_is counts_fit (λ q. stops q (k.status q) (old_fits q)) next_is

  -- the page that was taken is committed
  module _ (done : b.next ≡ Taken) where
    is_gone : k.status (b.count + 1) ≡ gone
    is_gone = subst (λ (m : Next). NextFits m (k.status (b.count + 1))) done next_is

    gone_fits : Old (b.count + 1) gone
    gone_fits = subst (λ (y : Status). Old (b.count + 1) y) is_gone (old_fits (b.count + 1))

    up : (q : ℕ) → (k.status q ≡ gone → ⊥) → b.count < q → b.count + 1 < q
    up q other low = by_eq q (b.count + 1) (b.count + 1 < q) (λ e. absurd (other (ap k.status e ∙ is_gone))) (λ ne. omega arith)

    near : (q : ℕ) → q ≤ b.count + sizes.ahead → q ≤ b.count + 1 + sizes.ahead
    near q l = omega arith

    commits : (q : ℕ) (y : Status) → k.status q ≡ y → Old q y → Fits right sizes (b.count + 1) Waiting b.is_stopped Words s.homes q y
    commits q undrawn e h = ⊎_elim (λ l. inl (omega (arith, last_same, l))) (λ r. inr r) h
    commits q (held j Drawn) e h = (range q h.0, up q (λ g. cc) h.1)
    commits q (held j Begun) e h = (range q h.0, (up q (λ g. cc) h.1.0, near q h.1.1))
    commits q (held j Placing) e h = (range q h.0, (up q (λ g. cc) h.1.0, near q h.1.1), (place_same (place_of sizes.ahead q) ∙ h.2.0, h.2.1))
    commits q lying e h = (range q h.0, (up q (λ g. cc) h.1.0, near q h.1.1), (h.2.0, h.2.1, (place_same (place_of sizes.ahead q) ∙ h.2.2.0, h.2.2.1)))
    commits q taking e h = absurd (let t = h.2 in cc)
    commits q gone e h = (range q h.0, inl (⊎_elim (λ l. omega (arith, l)) (λ r. (let x = r.0 in omega arith)) h.1))
    commits q lost e h = (range q h.0, h.1)

    pub committed : b.is_stopped ≡ false → n ≡ b.count + 1 → Kept right sizes (record { words = Words; homes = s.homes; views = set s.views 0 (Committer (record b { count = b.count + 1; next = Waiting })) })
    committed runs n_is = counted (record b { count = b.count + 1; next = Waiting }) refl refl refl (refl, refl) (n_is ∙ ap (λ (t : Bool). if t then mark else b.count + 1) (sym runs)) gone_fits.0 (λ q. commits q (k.status q) refl (old_fits q)) tt

-- what word 1 has, as the committer knows
word_is : {C : Type 0} (right : ℕ → C → Type 0) (sizes : Sizes) (s : State (Option C) View) (k : Kept right sizes s) (b : CommitterView) → k.committer ≡ b → get_or s.words 1 0 ≡ (if b.is_stopped then mark else b.count)
word_is right sizes s k b is = k.count_is ∙ ap (λ (c : CommitterView). if c.is_stopped then mark else c.count) is

max_is : (a c : ℕ) → a ≤ c → max a c ≡ c
max_is a c l = omega arith

-- the committed page was just taken
pub commit_goes : {C : Type 0} (right : ℕ → C → Type 0) (sizes : Sizes) (slots id : ℕ) (b : CommitterView) (c : List (ℕ × Option C)) (p : ℕ) → p ≡ b.count + 1 → b.next ≡ Taken → b.is_stopped ≡ false
    → Allows (Kept right sizes) slots id (Committer b, c) 1 (λ n. max n p) (Commits (step slots 1 p 0 none) (Committer b, c))
commit_goes {C} right sizes slots id b c p next_one done runs s k wide at small =
    let it = committer_is right sizes s k id b at in
    let n : ℕ = get_or s.words 1 0 in
    let at0 : get_elem? s.views 0 ≡ some (Committer b) = ap (λ (j : ℕ). get_elem? s.views j) (sym it.0) ∙ at in
    let word : n ≡ b.count = word_is right sizes s k b it.1 ∙ ap (λ (t : Bool). if t then mark else b.count) runs in
    let m : ℕ = max n p in
    let top : m ≡ b.count + 1 = max_is n p (omega arith) ∙ next_one in (
      Committer (record b { count = p; next = Waiting }),
      keeps,
      tt,
      subst (λ (t : ℕ × ℕ). Kept right sizes (record { words = set s.words 1 m; homes = s.homes; views = set s.views t.0 (Committer (record b { count = t.1; next = Waiting })) })) (λ j. (sym it.0 j, sym next_one j)) (committed right sizes s k b it.1 at0 m done runs top),
      refl,
    )

-- the work may be stopped at any moment
pub stop_goes : {C : Type 0} (right : ℕ → C → Type 0) (sizes : Sizes) (slots id : ℕ) (b : CommitterView) (c : List (ℕ × Option C))
    → Allows (Kept right sizes) slots id (Committer b, c) 1 (λ n. max n mark) (Stops (step slots 1 mark 0 none) (Committer b, c))
stop_goes {C} right sizes slots id b c s k wide at small =
    let it = committer_is right sizes s k id b at in
    let n : ℕ = get_or s.words 1 0 in
    let at0 : get_elem? s.views 0 ≡ some (Committer b) = ap (λ (j : ℕ). get_elem? s.views j) (sym it.0) ∙ at in
    let low : (t : Bool) → b.is_stopped ≡ t → n ≤ mark = elim [
      | true ↦ λ e. (let w : n ≡ mark = word_is right sizes s k b it.1 ∙ ap (λ (t : Bool). if t then mark else b.count) e in omega arith)
      | false ↦ λ e. (let w : n ≡ b.count = word_is right sizes s k b it.1 ∙ ap (λ (t : Bool). if t then mark else b.count) e in let f = counts_fit right sizes s k b it.1 at0 0 in let l = k.small in omega arith)
    ] in (
      Committer (record b { is_stopped = true }),
      keeps,
      tt,
      subst (λ (j : ℕ). Kept right sizes (record { words = set s.words 1 (max n mark); homes = s.homes; views = set s.views j (Committer (record b { is_stopped = true })) })) (sym it.0) (stopped right sizes s k b it.1 at0 (max n mark) (max_is n mark (low b.is_stopped refl))),
      refl,
    )
