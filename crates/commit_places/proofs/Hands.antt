-- What the rule says to a hand that steps.
use Rattle.std.proofs.Common.{◌≡◌, ◌≢◌, ℕ, ◌^◌, ◌<◌, ◌≤◌, get_or, set, Bool, true, false, refl, sym, ap, ◌∙◌, arith}
use Rattle.std.specs.Prelude.{Option, if◌then◌else◌}
use mathlib.Core.Option.{some, some-injective}
use lib.ListN.{get_elem?}
use Rattle.std.proofs.lemmas.List.Sums.{sum_by-le-sum_by}
use Rattle.atomic_table.specs.Table.{State}
use Rattle.atomic_table.proofs.Lists.{set_else}
use Rattle.commit_places.specs.declared.view.Sizes.{Sizes}
use Rattle.commit_places.specs.declared.view.Stage.TheVariants.{Drawn, Begun, Placing}
use Rattle.commit_places.specs.declared.view.Next.{Next}
use Rattle.commit_places.specs.declared.view.Next.TheVariants.{Waiting, Taking, Taken}
use Rattle.commit_places.specs.declared.view.HandView.{HandView}
use Rattle.commit_places.specs.declared.view.CommitterView.{CommitterView}
use Rattle.commit_places.specs.declared.view.View.{View}
use Rattle.commit_places.specs.declared.view.View.TheVariants.{Committer, Hand, Joined}
use Rattle.commit_places.specs.Rule.{Status, undrawn, held, lying, taking, gone, lost, hands_of, overs_of, NextFits, Kept}
use Rattle.commit_places.proofs.Frame.{F}

-- a seat stands for as many hands at least as drew that all pages are drawn
pub overs_few : (v : View) → overs_of v ≤ hands_of v
overs_few (Committer c) = omega arith
overs_few (Hand h) = one h.is_over
  where
    one : (b : Bool) → (if b then 1 else 0) ≤ 1
    one true = omega arith
    one false = omega arith
overs_few Joined = omega arith

pub not_committer : (h : HandView) (c : CommitterView) → Hand h ≡ Committer c → ⊥
not_committer h c e = cc

module _ {C : Type 0} (right : ℕ → C → Type 0) (sizes : Sizes) (s : State (Option C) View) (k : Kept right sizes s) where
  -- the last ticket is a small number
  pub small_ticket : get_or s.words 0 0 < 2 ^ 33
  small_ticket = omega (arith, k.overs, k.hands, k.hands_fit, k.small, sum_by-le-sum_by overs_of hands_of s.views overs_few)

  -- a hand's seat isn't the first
  pub not_first : (id : ℕ) (h : HandView) → get_elem? s.views id ≡ some (Hand h) → 0 ≢ id
  not_first id h at e = not_committer h k.committer (some-injective (Hand h) (Committer k.committer) (sym at ∙ ap (λ (i : ℕ). get_elem? s.views i) (sym e) ∙ k.first_seat))

  pub first_stays : (id : ℕ) (h : HandView) (w : View) → get_elem? s.views id ≡ some (Hand h) → get_elem? (set s.views id w) 0 ≡ some (Committer k.committer)
  first_stays id h w at = set_else s.views id 0 w (not_first id h at) ∙ k.first_seat

  -- a page above the last ticket isn't drawn
  pub fresh : (q : ℕ) (y : Status) → get_or s.words 0 0 < q → F right sizes s k k.committer.next s.words s.homes q y → y ≡ undrawn
  fresh q undrawn above h = refl
  fresh q (held j Drawn) above h = absurd (let a = h.0.0 in omega arith)
  fresh q (held j Begun) above h = absurd (let a = h.0.0 in omega arith)
  fresh q (held j Placing) above h = absurd (let a = h.0.0 in omega arith)
  fresh q lying above h = absurd (let a = h.0.0 in omega arith)
  fresh q taking above h = absurd (let a = h.0.0 in omega arith)
  fresh q gone above h = absurd (let a = h.0.0 in omega arith)
  fresh q lost above h = absurd (let a = h.0.0 in omega arith)

-- the committer's next page keeps its status where another page's changes
pub next_kept : (f g : ℕ → Status) (p c : ℕ) → ((q : ℕ) → q ≢ p → g q ≡ f q) → f p ≢ taking → f p ≢ gone → (next : Next) → NextFits next (f c) → NextFits next (g c)
next_kept f g p c apart no_taking no_gone Waiting h = tt
next_kept f g p c apart no_taking no_gone Taking h = apart c (λ e. no_taking (ap f (sym e) ∙ h)) ∙ h
next_kept f g p c apart no_taking no_gone Taken h = apart c (λ e. no_gone (ap f (sym e) ∙ h)) ∙ h
