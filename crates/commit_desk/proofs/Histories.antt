-- A history with one event more.
use Rattle.std.proofs.Common.{◌≡◌, ◌≢◌, ℕ, ◌+◌, ◌<◌, ◌≤◌, List, [], ◌∷◌, ◌++◌, Bool, true, false, ◌&&◌, ◌||◌, ◌==◌, nat_lt, nat_le, cond, refl, sym, ap, ◌∙◌, arith, append_assoc, append-nil}
use Rattle.std.proofs.lemmas.List.Folds.{list_any-append}
use Rattle.std.proofs.lemmas.List.Sums.{sum_by_push, fold-append}
use Rattle.std.proofs.lemmas.Bool.Decides.{nat_tests}
use Rattle.commit_desk.specs.declared.event.Event.{Event}
use Rattle.commit_desk.specs.History.{is_same, has, is_claim, claimed_count, committed_by, committed_count, may_follow, may_all_follow, is_legal}

pub both_true : (a b : Bool) → a ≡ true → b ≡ true → (a && b) ≡ true
both_true a b p q = ap (λ x. x && b) p ∙ q

pub first_true : (a b : Bool) → (a && b) ≡ true → a ≡ true
first_true true b e = refl
first_true false b e = cc

pub second_true : (a b : Bool) → (a && b) ≡ true → b ≡ true
second_true true b e = e
second_true false b e = cc

pub or_false : (a : Bool) → (a || false) ≡ a
or_false true = refl
or_false false = refl

pub is_le : (a b : ℕ) → a ≤ b → nat_le a b ≡ true
is_le a b h = grind (arith, nat_tests)

pub is_lt : (a b : ℕ) → a < b → nat_lt a b ≡ true
is_lt a b h = grind (arith, nat_tests)

pub le_is : (a b : ℕ) → nat_le a b ≡ true → a ≤ b
le_is a b h = grind (arith, nat_tests)

pub lt_is : (a b : ℕ) → nat_lt a b ≡ true → a < b
lt_is a b h = grind (arith, nat_tests)

pub eq_is : (p q : ℕ) → (p == q) ≡ true → p ≡ q
eq_is p q h = grind (arith, nat_tests)

pub ne_is : (p q : ℕ) → (p == q) ≡ false → p ≢ q
ne_is p q h = grind (arith, nat_tests)

pub is_eq : (p q : ℕ) → p ≡ q → (p == q) ≡ true
is_eq p q e = grind (arith, nat_tests)

may_all_follow-push : (ahead : ℕ) (before later : List Event) (e : Event) → may_all_follow ahead before later ≡ true → may_follow ahead (before ++ later) e ≡ true → may_all_follow ahead before (later ++ e ∷ []) ≡ true
may_all_follow-push ahead before [] e all may =
    both_true _ _ (ap (λ b. may_follow ahead b e) (sym (append-nil before)) ∙ may) refl
may_all_follow-push ahead before (x ∷ later) e all may =
    both_true _ _ (first_true _ _ all)
    (may_all_follow-push ahead (before ++ x ∷ []) later e (second_true _ _ all) (ap (λ b. may_follow ahead b e) (append_assoc before (x ∷ []) later) ∙ may))

pub is_legal-push : (ahead : ℕ) (h : List Event) (e : Event) → is_legal ahead h ≡ true → may_follow ahead h e ≡ true → is_legal ahead (h ++ e ∷ []) ≡ true
is_legal-push ahead h e legal may = may_all_follow-push ahead [] h e legal may

pub has-push : (h : List Event) (e x : Event) → has (h ++ e ∷ []) x ≡ (has h x || is_same x e)
has-push h e x = list_any-append (is_same x) h (e ∷ []) ∙ ap (λ b. has h x || b) (or_false (is_same x e))

pub claimed_count-push : (h : List Event) (e : Event) → claimed_count (h ++ e ∷ []) ≡ claimed_count h + cond (is_claim e) 1 0
claimed_count-push h e = sum_by_push (λ x. cond (is_claim x) 1 0) h e

pub committed_count-push : (h : List Event) (e : Event) → committed_count (h ++ e ∷ []) ≡ committed_by (committed_count h) e
committed_count-push h e = fold-append committed_by 0 h (e ∷ [])
