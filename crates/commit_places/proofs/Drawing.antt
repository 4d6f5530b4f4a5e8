-- A draw keeps the rule.
use Rattle.std.proofs.Common.{◌≡◌, ◌≢◌, ℕ, ◌+◌, ◌-◌, ◌%◌, ◌^◌, ◌<◌, ◌≤◌, inl, inr, List, get_or, set, Bool, true, false, nat_le, refl, sym, ap, ◌∙◌, subst, arith, length-set, get_or-set_same, get_or-set_other, mod-eq_of_lt, ⊎_elim, ◌∷◌}
use Rattle.std.specs.Prelude.{Option, if◌then◌else◌}
use mathlib.Core.Option.{some, none}
use lib.ListN.{get_elem?}
use Rattle.atomic_table.specs.Table.{State, step, Act, keeps, stepped, Valid, carried_after, Allows}
use Rattle.commit_places.specs.declared.view.Sizes.{Sizes}
use Rattle.commit_places.specs.declared.view.Stage.{Stage}
use Rattle.commit_places.specs.declared.view.Stage.TheVariants.{Drawn}
use Rattle.commit_places.specs.declared.view.Ticket.TheVariants.{Free, Held}
use Rattle.commit_places.specs.declared.view.HandView.{HandView}
use Rattle.commit_places.specs.declared.view.View.{View}
use Rattle.commit_places.specs.declared.view.View.TheVariants.{Hand}
use Rattle.commit_places.specs.Rule.{Status, undrawn, held, place_of, HasPlace, overs_of, times, draws_of, finishes_of, pages_in, Kept}
use Rattle.commit_places.specs.Steps.{Draws}
use Rattle.commit_places.proofs.Basics.{le_is, gt_is, no_ticket, times_more}
use Rattle.commit_places.proofs.Frame.{F, new, new_else, same_count, more_count, turned}
use Rattle.commit_places.proofs.Hands.{not_committer, small_ticket, first_stays, fresh, next_kept}

undrawn_held : (j : ℕ) (g : Stage) → undrawn ≡ held j g → ⊥
undrawn_held j g e = cc

module _ {C : Type 0} (right : ℕ → C → Type 0) (sizes : Sizes) (s : State (Option C) View) (k : Kept right sizes s)
    (id : ℕ) (h : HandView) (at : get_elem? s.views id ≡ some (Hand h)) (free : h.ticket ≡ Free) (not_over : h.is_over ≡ false) where
  abbrev N : ℕ
  N = get_or s.words 0 0

  abbrev Words : List ℕ
  Words = set s.words 0 (N + 1)

  last : get_or Words 0 0 ≡ N + 1
  last = get_or-set_same s.words 0 (N + 1) 0 (omega (arith, k.word_count))

  other : (i : ℕ) → 0 < i → get_or Words i 0 ≡ get_or s.words i 0
  other i some_word = get_or-set_other s.words 0 i (N + 1) 0 (λ e. omega arith)

  is_undrawn : k.status (N + 1) ≡ undrawn
  is_undrawn = fresh right sizes s k (N + 1) (k.status (N + 1)) (omega arith) (k.each_page (N + 1))

  -- what the hand finished, it drew
  no_pages : (q : ℕ) → times q h.finished ≤ times q h.drawn
  no_pages q = let o = k.own id (Hand h) at q in omega arith

  -- the next page gets the status x, and the hand the view w
  module _ (x : Status) (w : HandView) where
    abbrev St : ℕ → Status
    St = new right sizes s k (N + 1) x id (Hand h) (Hand w) at k.committer.next Words s.homes

    apart : (q : ℕ) → q ≢ N + 1 → St q ≡ k.status q
    apart = new_else right sizes s k (N + 1) x id (Hand h) (Hand w) at k.committer.next Words s.homes

    drawn : (fits : F right sizes s k k.committer.next Words s.homes (N + 1) x)
        → ((j : ℕ) (g : Stage) → x ≡ held j g → (j ≡ id) × (w.ticket ≡ Held g (N + 1)))
        → ((q : ℕ) (g : Stage) → w.ticket ≡ Held g q → (q ≡ N + 1) × (x ≡ held id g))
        → overs_of (Hand w) + (N - sizes.pages) ≡ overs_of (Hand h) + (N + 1 - sizes.pages)
        → ((q : ℕ) → times q w.drawn + draws_of (k.status q) ≡ times q h.drawn + draws_of (St q))
        → finishes_of x ≡ finishes_of (k.status (N + 1)) → w.finished ≡ h.finished
        → ((q : ℕ) → times q w.finished + times q (pages_in w.ticket) ≤ times q w.drawn)
        → Kept right sizes (record { words = Words; homes = s.homes; views = set s.views id (Hand w) })
    drawn fits after own overs draws same_finishes same_list mine = turned right sizes s k (N + 1) x id (Hand h) (Hand w) at k.committer.next Words s.homes (record {
      word_count = length-set s.words 0 (N + 1);
      place_count = refl;
      more = omega (arith, last);
      undrawn_stays = λ q ne above. inl (omega (arith, last));
      count_same = other 1 (omega arith);
      place_stays = λ q ne has. (other (place_of sizes.ahead q + 2) (omega arith), refl);
      place_fits = λ i lt. ⊎_elim (λ e. inl (other (i + 2) (omega arith) ∙ e.0, e.1)) (λ g. inr (g.0, g.1, subst HasPlace (sym (apart g.0 (λ e. subst HasPlace (ap k.status e ∙ is_undrawn) g.2))) g.2)) (k.each_place i lt);
      page_fits = fits;
      next_stays = inr refl;
      next_page = next_kept k.status St (N + 1) (k.committer.count + 1) apart (λ e. let u = is_undrawn in cc) (λ e. let u = is_undrawn in cc) k.committer.next k.next_page;
      first_seat = first_stays right sizes s k id h (Hand w) at;
      only_seat = λ c e. absurd (not_committer w c e);
      own_before = λ q g e. absurd (no_ticket g q (sym free ∙ e));
      page_before = λ j g e. absurd (undrawn_held j g (sym is_undrawn ∙ e));
      page_after = after;
      own_after = own;
      overs = omega (arith, last);
      hands = refl;
      drawn_step = draws;
      finished_step = λ q. subst (λ (l : List ℕ). times q l + finishes_of (k.status q) ≡ times q h.finished + finishes_of (St q)) (sym same_list) (same_count right sizes s k (N + 1) x id (Hand h) (Hand w) at k.committer.next Words s.homes finishes_of same_finishes h.finished q);
      own_step = mine;
    })

  abbrev Yes : HandView
  Yes = record h { ticket = Held Drawn (N + 1); drawn = (N + 1) ∷ h.drawn }

  abbrev No : HandView
  No = record h { is_over = true }

  a_page : N + 1 ≤ sizes.pages → Kept right sizes (record { words = Words; homes = s.homes; views = set s.views id (Hand Yes) })
  a_page room = let c = k.count_fits.0 in drawn (held id Drawn) Yes
      ((omega (arith, last), room), omega arith)
      (λ j g e. (cc, cc))
      (λ q g e. (cc, cc))
      (omega arith)
      (more_count right sizes s k (N + 1) (held id Drawn) id (Hand h) (Hand Yes) at k.committer.next Words s.homes draws_of (ap draws_of is_undrawn) refl h.drawn)
      (sym (ap finishes_of is_undrawn)) refl
      (λ q. (let o = no_pages q in let t = times_more (N + 1) q h.drawn in omega arith))

  over : sizes.pages < N + 1 → Kept right sizes (record { words = Words; homes = s.homes; views = set s.views id (Hand No) })
  over past = drawn undrawn No
      (inr past)
      (λ j g e. absurd (undrawn_held j g e))
      (λ q g e. absurd (no_ticket g q (sym free ∙ e)))
      (let none_yet : overs_of (Hand h) ≡ 0 = ap (λ (b : Bool). if b then 1 else 0) not_over in omega arith)
      (same_count right sizes s k (N + 1) undrawn id (Hand h) (Hand No) at k.committer.next Words s.homes draws_of (sym (ap draws_of is_undrawn)) h.drawn)
      (sym (ap finishes_of is_undrawn)) refl
      (λ q. k.own id (Hand h) at q)

-- the hand has the page after the last ticket, or has drawn that there is none
pub draws : {C : Type 0} (right : ℕ → C → Type 0) (sizes : Sizes) (slots id : ℕ) (h : HandView) (c : List (ℕ × Option C)) → h.ticket ≡ Free → h.is_over ≡ false → h.sizes ≡ sizes
    → Allows (Kept right sizes) slots id (Hand h, c) 0 (λ n. (n + 1) % 2 ^ 64) (Draws (step slots 0 1 0 none) (Hand h, c))
draws {C} right sizes slots id h c free not_over same s k wide at small =
    let n : ℕ = get_or s.words 0 0 in
    let low : n < 2 ^ 33 = small_ticket right sizes s k in
    let whole : (n + 1) % 2 ^ 64 ≡ n + 1 = mod-eq_of_lt (omega arith) in
    let pages : h.sizes.pages ≡ sizes.pages = ap (λ (y : Sizes). y.pages) same in
    let Q : ℕ → Type 0 = λ m. (w : View) × (a : Act (Option C)) × Valid s.homes c a × Kept right sizes (stepped s 0 m id c w a) × Draws (step slots 0 1 0 none) (Hand h, c) n (w, carried_after c a) in
    let yes' : HandView = record h { ticket = Held Drawn (n + 1); drawn = (n + 1) ∷ h.drawn } in
    let no' : HandView = record h { is_over = true } in
    let cases : (b : Bool) → nat_le (n + 1) h.sizes.pages ≡ b → Q (n + 1) = elim [
      | true ↦ λ e. (Hand yes', keeps, tt, a_page right sizes s k id h at free not_over (let r : n + 1 ≤ h.sizes.pages = le_is _ _ e in omega arith), (low, ap (λ (b : Bool). (Hand (if b then yes' else no'), c)) (sym e)))
      | false ↦ λ e. (Hand no', keeps, tt, over right sizes s k id h at free not_over (let r : h.sizes.pages < n + 1 = gt_is _ _ e in omega arith), (low, ap (λ (b : Bool). (Hand (if b then yes' else no'), c)) (sym e)))
    ] in
    subst Q (sym whole) (cases (nat_le (n + 1) h.sizes.pages) refl)
