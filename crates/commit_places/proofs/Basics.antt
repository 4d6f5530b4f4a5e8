-- Lists of views, tickets in them, and functions from pages that differ at one.
use Rattle.std.proofs.Common.{◌≡◌, ◌≢◌, ℕ, suc, zero, ◌+◌, ◌-◌, ◌<◌, ◌≤◌, ◌==◌, List, [], ◌∷◌, length, get_or, set, Bool, true, false, cond, nat_le, refl, sym, ap, ◌∙◌, sum_by, arith, get_or-set_same, get_or-set_other}
use Rattle.std.specs.Prelude.{if◌then◌else◌}
use mathlib.Core.Option.{some, some-injective, some-ne-none}
use lib.ListN.{get_elem?}
use Rattle.std.proofs.lemmas.List.Sums.{sum_by-set, sum_by-cons}
use Rattle.std.proofs.lemmas.Bool.Decides.{nat_tests}
use Rattle.atomic_table.proofs.Lists.{one_turn}
use Rattle.commit_places.specs.declared.view.Stage.{Stage}
use Rattle.commit_places.specs.declared.view.Ticket.TheVariants.{Free, Held}
use Rattle.commit_places.specs.declared.view.View.{View}
use Rattle.commit_places.specs.declared.view.View.TheVariants.{Joined}
use Rattle.commit_places.specs.Rule.{Status, place_of, ticket_of, ticket_at, times}

pub is_eq : (p q : ℕ) → (p == q) ≡ true → p ≡ q
is_eq p q h = grind (arith, nat_tests)

pub is_ne : (p q : ℕ) → (p == q) ≡ false → p ≢ q
is_ne p q h = grind (arith, nat_tests)

eq_is : (p : ℕ) → (p == p) ≡ true
eq_is p = grind (arith, nat_tests)

ne_is : (p q : ℕ) → p ≢ q → (p == q) ≡ false
ne_is p q h = grind (arith, nat_tests)

pub le_is : (a b : ℕ) → nat_le a b ≡ true → a ≤ b
le_is a b h = grind (arith, nat_tests)

pub gt_is : (a b : ℕ) → nat_le a b ≡ false → b < a
gt_is a b h = grind (arith, nat_tests)

-- two numbers are one or are apart
pub by_eq : (p q : ℕ) (A : Type 0) → (p ≡ q → A) → (p ≢ q → A) → A
by_eq p q A same apart =
    let cases : (b : Bool) → (p == q) ≡ b → A = elim [
      | true ↦ λ h. same (is_eq p q h)
      | false ↦ λ h. apart (is_ne p q h)
    ] in
    cases (p == q) refl

pub put : (ℕ → Status) → ℕ → Status → ℕ → Status
put f p x q = cond (q == p) x (f q)

pub put_here : (f : ℕ → Status) (p : ℕ) (x : Status) → put f p x p ≡ x
unfolding put
put_here f p x = ap (λ b. cond b x (f p)) (eq_is p)

pub put_else : (f : ℕ → Status) (p q : ℕ) (x : Status) → q ≢ p → put f p x q ≡ f q
unfolding put
put_else f p q x ne = ap (λ b. cond b x (f q)) (ne_is q p ne)

pub got : {A : Type 0} (l : List A) (i : ℕ) (v d : A) → get_elem? l i ≡ some v → (i < length l) × (get_or l i d ≡ v)
got [] i v d e = absurd (some-ne-none v (sym e))
got (x ∷ xs) zero v d e = (omega arith, some-injective x v e)
got (x ∷ xs) (suc i) v d e = let h = got xs i v d e in (omega (arith, h.0), h.1)

pub sum_put : {A : Type 0} (f : A → ℕ) (l : List A) (i : ℕ) (v w : A) → get_elem? l i ≡ some v → sum_by f (set l i w) + f v ≡ sum_by f l + f w
sum_put f l i v w e = let h = got l i v v e in ap (λ x. sum_by f (set l i w) + f x) (sym h.1) ∙ sum_by-set f l i w v h.0

module _ (views : List View) (id : ℕ) (v w : View) (at : get_elem? views id ≡ some v) where
  pub ticket_now : ticket_at views id ≡ ticket_of v
  ticket_now = ap ticket_of (got views id v Joined at).1

  pub ticket_here : ticket_at (set views id w) id ≡ ticket_of w
  ticket_here = ap ticket_of (get_or-set_same views id w Joined (got views id v Joined at).0)

  pub ticket_else : (j : ℕ) → j ≢ id → ticket_at (set views id w) j ≡ ticket_at views j
  ticket_else j ne = ap ticket_of (get_or-set_other views id j w Joined ne)

  -- where the ticket stays, so do all
  pub tickets_stay : ticket_of w ≡ ticket_of v → (j : ℕ) → ticket_at (set views id w) j ≡ ticket_at views j
  tickets_stay same j = by_eq j id (ticket_at (set views id w) j ≡ ticket_at views j) (λ e. ap (ticket_at (set views id w)) e ∙ ticket_here ∙ same ∙ sym ticket_now ∙ ap (ticket_at views) (sym e)) (ticket_else j)

pub no_ticket : (stage : Stage) (page : ℕ) → Free ≡ Held stage page → ⊥
no_ticket stage page e = cc

-- two pages in reach that have one place are one page
pub same_page : (a c q p : ℕ) → c < q → q ≤ c + a → c < p → p ≤ c + a → place_of a q ≡ place_of a p → q ≡ p
same_page a c q p l r l' r' e =
    let cases : (b : Bool) → nat_le (q - 1) (p - 1) ≡ b → q ≡ p = elim [
      | true ↦ λ h. let le : q - 1 ≤ p - 1 = le_is _ _ h in let t : q - 1 ≡ p - 1 = one_turn (q - 1) (p - 1) a le (omega arith) e in omega arith
      | false ↦ λ h. let le : p - 1 < q - 1 = gt_is _ _ h in let t : p - 1 ≡ q - 1 = one_turn (p - 1) (q - 1) a (omega arith) (omega arith) (sym e) in omega arith
    ] in
    cases (nat_le (q - 1) (p - 1)) refl

pub times_here : (p q : ℕ) (l : List ℕ) → p ≡ q → times q (p ∷ l) ≡ 1 + times q l
times_here p q l e = sum_by-cons (λ (y : ℕ). if (y == q) then 1 else 0) p l ∙ ap (λ (b : Bool). (if b then 1 else 0) + times q l) (ap (λ (y : ℕ). y == q) e ∙ eq_is q)

pub times_else : (p q : ℕ) (l : List ℕ) → p ≢ q → times q (p ∷ l) ≡ times q l
times_else p q l ne = let a : times q (p ∷ l) ≡ 0 + times q l = sum_by-cons (λ (y : ℕ). if (y == q) then 1 else 0) p l ∙ ap (λ (b : Bool). (if b then 1 else 0) + times q l) (ne_is p q ne) in omega arith

-- a page before a list counts beside it
pub times_more : (p q : ℕ) (l : List ℕ) → times q (p ∷ l) ≡ times q (p ∷ []) + times q l
times_more p q l = by_eq p q (times q (p ∷ l) ≡ times q (p ∷ []) + times q l) (λ e. let a = times_here p q l e in let b = times_here p q [] e in omega arith) (λ ne. let a = times_else p q l ne in let b = times_else p q [] ne in omega arith)
