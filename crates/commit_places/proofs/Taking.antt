-- The two steps of a taking keep the rule: the committer takes the place of the next page where its piece lies there, and gives it back.
use Rattle.std.proofs.Common.{◌≡◌, ℕ, ◌+◌, ◌-◌, ◌<◌, ◌≤◌, ◌==◌, inl, inr, List, ◌∷◌, get_or, set, Bool, refl, sym, ap, ◌∙◌, subst, arith, mod-lt, eq-eqb, ne_eqb, ⊎_elim}
use Rattle.std.specs.Prelude.{Option, Some, None, MatchBool}
use mathlib.Core.Option.{some, none}
use lib.ListN.{get_elem?}
use prog.Atomic.{either}
use Rattle.std.proofs.lemmas.List.{set-get_or}
use Rattle.atomic_table.specs.Table.{State, Me, step, Act, keeps, takes, gives, stepped, Valid, carried_after, Allows}
use Rattle.atomic_table.proofs.Lists.{set_here, set_again, exchanged}
use Rattle.commit_places.specs.declared.view.Sizes.{Sizes}
use Rattle.commit_places.specs.declared.view.Stage.TheVariants.{Drawn, Begun, Placing}
use Rattle.commit_places.specs.declared.view.Next.{Next}
use Rattle.commit_places.specs.declared.view.Next.TheVariants as nexts
use Rattle.commit_places.specs.declared.view.CommitterView.{CommitterView}
use Rattle.commit_places.specs.declared.view.View.{View}
use Rattle.commit_places.specs.declared.view.View.TheVariants.{Committer, Joined}
use Rattle.commit_places.specs.Rule.{Status, undrawn, held, lying, taking, gone, lost, mark, place_of, HasPlace, NextFits, Kept, draws_of, finishes_of}
use Rattle.commit_places.specs.Steps.{Takes, Clears}
use Rattle.commit_places.proofs.Basics.{no_ticket, got}
use Rattle.commit_places.proofs.Frame.{F, new, new_here, same_count}
use Rattle.commit_places.proofs.Roster.{committer_is}
use Rattle.commit_places.proofs.OnPlace.{last_same, word_here, home_here, placed}

module _ {C : Type 0} (right : ℕ → C → Type 0) (sizes : Sizes) (s : State (Option C) View) (k : Kept right sizes s) (p : ℕ) where
  abbrev I : ℕ
  I = place_of sizes.ahead p

  abbrev Fit : ℕ → Status → Type 0
  Fit = F right sizes s k k.committer.next s.words s.homes

  -- the page lies in its place
  abbrev Lies : Type 0
  Lies = (k.status p ≡ lying) × ((piece : C) × right p piece × (get_elem? s.homes I ≡ some (some (Some piece))))

  -- a page that has the place has the word there
  who : (q : ℕ) (y : Status) → k.status q ≡ y → HasPlace y → place_of sizes.ahead q ≡ I → p < mark → get_or s.words (I + 2) 0 ≡ p → Fit q y → Lies
  who q undrawn e has same low word h = absurd has
  who q (held j Drawn) e has same low word h = absurd has
  who q (held j Begun) e has same low word h = absurd has
  who q (held j Placing) e has same low word h = absurd (let w : get_or s.words (I + 2) 0 ≡ mark = ap (λ (i : ℕ). get_or s.words (i + 2) 0) (sym same) ∙ h.2.0 in omega arith)
  who q lying e has same low word h =
      let w : get_or s.words (I + 2) 0 ≡ q = ap (λ (i : ℕ). get_or s.words (i + 2) 0) (sym same) ∙ h.2.2.0 in
      let is : q ≡ p = sym w ∙ word in
      (ap k.status (sym is) ∙ e, (h.2.0, subst (λ (i : ℕ). right i h.2.0) is h.2.1, ap (λ (i : ℕ). get_elem? s.homes i) (sym same) ∙ h.2.2.1))
  who q taking e has same low word h = absurd (let w : get_or s.words (I + 2) 0 ≡ mark = ap (λ (i : ℕ). get_or s.words (i + 2) 0) (sym same) ∙ h.3.0 in omega arith)
  who q gone e has same low word h = absurd has
  who q lost e has same low word h = absurd has

  -- where the place's word is the page's number, the page lies there
  pub lies : 0 < p → p ≤ sizes.pages → get_or s.words (I + 2) 0 ≡ p → Lies
  lies some_page room word = let l = k.small in ⊎_elim (λ e. absurd (let z = e.0 in omega arith))
      (λ g. who g.0 (k.status g.0) refl g.2 g.1 (omega arith) word (k.each_page g.0)) (k.each_place I (mod-lt (p - 1) k.some_place))

  module _ (next_one : p ≡ k.committer.count + 1) where
    above : k.committer.count < p
    above = omega arith

    near : p ≤ k.committer.count + sizes.ahead
    near = omega (arith, k.some_place)

    module _ (b : CommitterView) (is : k.committer ≡ b) (at : get_elem? s.views 0 ≡ some (Committer b)) (next : Next) where
      abbrev V : View
      V = Committer b

      abbrev W : View
      W = Committer (record b { next = next })

      first : get_elem? (set s.views 0 W) 0 ≡ some (Committer (record k.committer { next = next }))
      first = set_here s.views 0 W (got s.views 0 V Joined at).0 ∙ ap (λ (c : CommitterView). some (Committer (record c { next = next }))) (sym is)

    taken : (b : CommitterView) → k.committer ≡ b → get_elem? s.views 0 ≡ some (Committer b) → k.status p ≡ lying
        → Kept right sizes (record { words = set s.words (I + 2) mark; homes = set s.homes I none; views = set s.views 0 (Committer (record b { next = nexts.Taking })) })
    taken b is at lay =
        let m : Fit p lying = subst (λ (y : Status). Fit p y) lay (k.each_page p) in let a = m.0.0 in
        let w : View = Committer (record b { next = nexts.Taking }) in
        placed right sizes s k p above near taking 0 (Committer b) w at nexts.Taking mark none (record {
          page_fits = (
            (omega (arith, last_same right sizes s k p above near taking 0 (Committer b) w at nexts.Taking mark none), m.0.1),
            next_one,
            refl,
            (word_here right sizes s k p above near taking 0 (Committer b) w at nexts.Taking mark none, home_here right sizes s k p above near taking 0 (Committer b) w at nexts.Taking mark none),
          );
          filled = inl tt;
          next_stays = inl next_one;
          next_page = ap (new right sizes s k p taking 0 (Committer b) w at nexts.Taking (set s.words (I + 2) mark) (set s.homes I none)) (sym next_one) ∙ new_here right sizes s k p taking 0 (Committer b) w at nexts.Taking (set s.words (I + 2) mark) (set s.homes I none);
          first_seat = first b is at nexts.Taking;
          only_seat = λ c e. refl;
          own_before = λ q g e. absurd (no_ticket g q e);
          page_before = λ j g e. absurd (cc);
          page_after = λ j g e. absurd (cc);
          own_after = λ q g e. absurd (no_ticket g q e);
          overs = refl;
          hands = refl;
          draws = sym (ap draws_of lay);
          drawn = refl;
          finished_step = same_count right sizes s k p taking 0 (Committer b) w at nexts.Taking (set s.words (I + 2) mark) (set s.homes I none) finishes_of (sym (ap finishes_of lay)) b.finished;
          own_step = λ q. k.own 0 (Committer b) at q;
        })

    cleared : (b : CommitterView) → k.committer ≡ b → get_elem? s.views 0 ≡ some (Committer b) → b.next ≡ nexts.Taking
        → Kept right sizes (record { words = set s.words (I + 2) 0; homes = set s.homes I (some None); views = set s.views 0 (Committer (record b { next = nexts.Taken })) })
    cleared b is at busy =
        let lay : k.status p ≡ taking = ap k.status next_one ∙ subst (λ (n : Next). NextFits n (k.status (k.committer.count + 1))) (ap (λ (c : CommitterView). c.next) is ∙ busy) k.next_page in
        let m : Fit p taking = subst (λ (y : Status). Fit p y) lay (k.each_page p) in let a = m.0.0 in
        let w : View = Committer (record b { next = nexts.Taken }) in
        placed right sizes s k p above near gone 0 (Committer b) w at nexts.Taken 0 (some None) (record {
          page_fits = ((omega (arith, last_same right sizes s k p above near gone 0 (Committer b) w at nexts.Taken 0 (some None)), m.0.1), inr (next_one, refl));
          filled = inr (refl, refl);
          next_stays = inl next_one;
          next_page = ap (new right sizes s k p gone 0 (Committer b) w at nexts.Taken (set s.words (I + 2) 0) (set s.homes I (some None))) (sym next_one) ∙ new_here right sizes s k p gone 0 (Committer b) w at nexts.Taken (set s.words (I + 2) 0) (set s.homes I (some None));
          first_seat = first b is at nexts.Taken;
          only_seat = λ c e. refl;
          own_before = λ q g e. absurd (no_ticket g q e);
          page_before = λ j g e. absurd (cc);
          page_after = λ j g e. absurd (cc);
          own_after = λ q g e. absurd (no_ticket g q e);
          overs = refl;
          hands = refl;
          draws = sym (ap draws_of lay);
          drawn = refl;
          finished_step = same_count right sizes s k p gone 0 (Committer b) w at nexts.Taken (set s.words (I + 2) 0) (set s.homes I (some None)) finishes_of (sym (ap finishes_of lay)) b.finished;
          own_step = λ q. k.own 0 (Committer b) at q;
        })

back : (i : ℕ) → i + 2 - 2 ≡ i
back i = omega arith

-- where the word is the page's number the committer takes the place with the right piece, and else nothing changes
pub take_goes : {C : Type 0} (right : ℕ → C → Type 0) (sizes : Sizes) (slots id : ℕ) (b : CommitterView) (c : List (ℕ × Option C)) (p : ℕ) → p ≡ b.count + 1 → p ≤ sizes.pages
    → Allows (Kept right sizes) slots id (Committer b, c) (place_of sizes.ahead p + 2) (λ n. either (n == p) mark n) (Takes right (step slots (place_of sizes.ahead p + 2) p mark none) (Committer b, c))
take_goes {C} right sizes slots id b c p next_one room s k wide at small =
    let it = committer_is right sizes s k id b at in
    let i : ℕ = place_of sizes.ahead p in
    let n : ℕ = get_or s.words (i + 2) 0 in
    let w : View = Committer (record b { next = nexts.Taking }) in
    let same : p ≡ k.committer.count + 1 = next_one ∙ ap (λ (x : CommitterView). x.count + 1) (sym it.1) in
    let at0 : get_elem? s.views 0 ≡ some (Committer b) = ap (λ (j : ℕ). get_elem? s.views j) (sym it.0) ∙ at in
    let G : ℕ → Type 0 = λ m. (v : View) × (a : Act (Option C)) × Valid s.homes c a × Kept right sizes (stepped s (i + 2) m id c v a) × Takes right (step slots (i + 2) p mark none) (Committer b, c) n (v, carried_after c a) in
    exchanged n p mark G
    (λ hit. let l = lies right sizes s k p (omega arith) room hit in (
      w,
      takes i (Some l.1.0),
      l.1.2,
      subst (λ (j : ℕ). Kept right sizes (record { words = set s.words (i + 2) mark; homes = set s.homes i none; views = set s.views j w })) (sym it.0) (taken right sizes s k p same b it.1 at0 l.0),
      subst (λ (t : Bool). MatchBool t ((piece : C) × right p piece × ◌≡◌ {A = Me (Option C) View} (w, (i, Some l.1.0) ∷ c) (w, (i + 2 - 2, Some piece) ∷ c)) (◌≡◌ {A = Me (Option C) View} (w, (i, Some l.1.0) ∷ c) (Committer b, c))) (sym (eq-eqb n p hit)) (l.1.0, l.1.1, ap (λ (j : ℕ). (w, (j, Some l.1.0) ∷ c)) (sym (back i))),
    ))
    (λ miss. (
      Committer b,
      keeps,
      tt,
      subst (λ (t : List ℕ × List View). Kept right sizes (record { words = t.0; homes = s.homes; views = t.1 })) (λ j. (sym (set-get_or s.words (i + 2) 0) j, sym (set_again s.views id (Committer b) at) j)) k,
      subst (λ (t : Bool). MatchBool t ((piece : C) × right p piece × ◌≡◌ {A = Me (Option C) View} (Committer b, c) (w, (i + 2 - 2, Some piece) ∷ c)) (◌≡◌ {A = Me (Option C) View} (Committer b, c) (Committer b, c))) (sym (ne_eqb n p miss)) refl,
    ))

-- the committer gives the place back, which is empty
pub clears : {C : Type 0} (right : ℕ → C → Type 0) (sizes : Sizes) (slots id : ℕ) (b : CommitterView) (c : List (ℕ × Option C)) (p : ℕ) → p ≡ b.count + 1 → b.next ≡ nexts.Taking
    → Allows (Kept right sizes) slots id (Committer b, (place_of sizes.ahead p, None) ∷ c) (place_of sizes.ahead p + 2) (λ _. 0) (Clears (step slots (place_of sizes.ahead p + 2) 0 0 none) (Committer b, (place_of sizes.ahead p, None) ∷ c))
clears right sizes slots id b c p next_one busy s k wide at small =
    let it = committer_is right sizes s k id b at in
    let i : ℕ = place_of sizes.ahead p in
    let w : View = Committer (record b { next = nexts.Taken }) in
    let same : p ≡ k.committer.count + 1 = next_one ∙ ap (λ (x : CommitterView). x.count + 1) (sym it.1) in
    let at0 : get_elem? s.views 0 ≡ some (Committer b) = ap (λ (j : ℕ). get_elem? s.views j) (sym it.0) ∙ at in
    (w, gives, tt, subst (λ (j : ℕ). Kept right sizes (record { words = set s.words (i + 2) 0; homes = set s.homes i (some None); views = set s.views j w })) (sym it.0) (cleared right sizes s k p same b it.1 at0 busy), refl)
