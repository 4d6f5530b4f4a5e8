-- What follows from the rule.
use Rattle.std.proofs.Common.{◌≡◌, ◌≢◌, ℕ, suc, zero, ◌+◌, ◌-◌, ◌<◌, ◌≤◌, get_or, Bool, true, false, refl, ap, subst, arith}
use Rattle.std.specs.Prelude.{Option, if◌then◌else◌}
use mathlib.Core.Option.{some}
use lib.ListN.{get_elem?}
use Rattle.atomic_table.specs.Table.{State}
use Rattle.commit_places.specs.declared.view.Sizes.{Sizes}
use Rattle.commit_places.specs.declared.view.Stage.{Stage}
use Rattle.commit_places.specs.declared.view.Stage.TheVariants.{Drawn, Begun, Placing}
use Rattle.commit_places.specs.declared.view.HandView.{HandView}
use Rattle.commit_places.specs.declared.view.View.{View}
use Rattle.commit_places.specs.declared.view.View.TheVariants.{Committer, Hand, Joined}
use Rattle.commit_places.specs.Rule.{Status, undrawn, held, lying, taking, gone, lost, overs_of, Kept, draws_of, finishes_of}
use Rattle.commit_places.specs.Steps.{committer_of}
use Rattle.commit_places.specs.Promise.{is_busy, busy_count, committed, Has, Lies, DrawnOnce, FinishedOnce, FinishedByDrawer}
use Rattle.commit_places.proofs.Basics.{got, sum_put}
use Rattle.commit_places.proofs.Frame.{F}
use Rattle.commit_places.proofs.Taking.{lies}

module _ {C : Type 0} (right : ℕ → C → Type 0) (sizes : Sizes) (s : State (Option C) View) (k : Kept right sizes s) where
  count_is : committed sizes s ≡ k.committer.count
  count_is = ap (λ (v : View). (committer_of v).count) (got s.views 0 (Committer k.committer) Joined k.first_seat).1

  module _ (page seat : ℕ) (a : Stage) (has : Has sizes s seat a page) where
    is_held : k.status page ≡ held seat a
    is_held = k.ticket_is page seat a has

    fits : F right sizes s k k.committer.next s.words s.homes page (held seat a)
    fits = subst (λ (y : Status). F right sizes s k k.committer.next s.words s.homes page y) is_held (k.each_page page)

    above : (b : Stage) → F right sizes s k k.committer.next s.words s.homes page (held seat b) → (k.committer.count < page) × (page ≤ sizes.pages)
    above Drawn h = (h.1, h.0.1)
    above Begun h = (h.1.0, h.0.1)
    above Placing h = (h.1.0, h.0.1)

    reach : (b : Stage) → b ≢ Drawn → F right sizes s k k.committer.next s.words s.homes page (held seat b) → page ≤ k.committer.count + sizes.ahead
    reach Drawn ne h = absurd (ne refl)
    reach Begun ne h = h.1.1
    reach Placing ne h = h.1.1

    pub once : (committed sizes s < page) × (page ≤ sizes.pages) × (Lies sizes s page → ⊥)
    once = let h = above a fits in let c = count_is in let low = h.0 in
        (omega arith, h.1, λ there. (let l = (lies right sizes s k page (omega arith) h.1 there).0 in let u = is_held in cc))

    pub near : a ≢ Drawn → page ≤ committed sizes s + sizes.ahead
    near ne = let r = reach a ne fits in let c = count_is in omega arith

  -- a page that is busy is in reach
  busy_near : (q : ℕ) (y : Status) → is_busy y ≡ true → F right sizes s k k.committer.next s.words s.homes q y → (k.committer.count < q) × (q ≤ k.committer.count + sizes.ahead)
  busy_near q undrawn b h = absurd (cc)
  busy_near q (held j Drawn) b h = absurd (cc)
  busy_near q (held j Begun) b h = h.1
  busy_near q (held j Placing) b h = h.1
  busy_near q lying b h = h.1
  busy_near q taking b h = let e = h.1 in let p = k.some_place in (omega arith, omega arith)
  busy_near q gone b h = absurd (cc)
  busy_near q lost b h = absurd (cc)

  busy_some : (n : ℕ) → (busy_count k.status n ≤ n - k.committer.count) × (busy_count k.status n ≤ sizes.ahead)
  busy_some zero = (omega arith, omega arith)
  busy_some (suc n) = next (is_busy (k.status (suc n))) refl (busy_some n)
    where
      next : (b : Bool) → is_busy (k.status (suc n)) ≡ b → (busy_count k.status n ≤ n - k.committer.count) × (busy_count k.status n ≤ sizes.ahead) → (busy_count k.status n + (if b then 1 else 0) ≤ suc n - k.committer.count) × (busy_count k.status n + (if b then 1 else 0) ≤ sizes.ahead)
      next true e i = let r = busy_near (suc n) (k.status (suc n)) e (k.each_page (suc n)) in let x = i.0 in let y = r.0 in let z = r.1 in (omega arith, omega arith)
      next false e i = let x = i.0 in let y = i.1 in (omega arith, omega arith)

  pub few : busy_count k.status sizes.pages ≤ sizes.ahead
  few = (busy_some sizes.pages).1

  pub over : (seat : ℕ) (hand : HandView) → get_elem? s.views seat ≡ some (Hand hand) → hand.is_over ≡ true → sizes.pages < get_or s.words 0 0
  over seat hand at yes' = let one : overs_of (Hand hand) ≡ 1 = ap (λ (b : Bool). if b then 1 else 0) yes' in let o = k.overs in
      omega (arith, sum_put overs_of s.views seat (Hand hand) Joined at)

  draws_few : (x : Status) → draws_of x ≤ 1
  draws_few undrawn = omega arith
  draws_few (held seat stage) = omega arith
  draws_few lying = omega arith
  draws_few taking = omega arith
  draws_few gone = omega arith
  draws_few lost = omega arith

  finishes_few : (x : Status) → finishes_of x ≤ 1
  finishes_few undrawn = omega arith
  finishes_few (held seat stage) = omega arith
  finishes_few lying = omega arith
  finishes_few taking = omega arith
  finishes_few gone = omega arith
  finishes_few lost = omega arith

  pub drawn_once : DrawnOnce sizes s
  drawn_once page some_page = let a = k.drawn_once page some_page in let b = draws_few (k.status page) in omega arith

  pub finished_once : FinishedOnce sizes s
  finished_once page some_page = let a = k.finished_once page some_page in let b = finishes_few (k.status page) in omega arith

  pub by_drawer : FinishedByDrawer sizes s
  by_drawer seat view at page = let o = k.own seat view at page in omega arith
