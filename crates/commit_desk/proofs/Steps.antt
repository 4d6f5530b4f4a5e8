-- What a desk's fields say of its history, and that it stays so with each event.
use Rattle.std.proofs.Common.{◌≡◌, ℕ, ◌+◌, ◌*◌, ◌<◌, ◌≤◌, List, [], ◌∷◌, ◌++◌, Bool, true, false, not, ◌&&◌, ◌||◌, ◌==◌, nat_lt, nat_le, cond, length, get_or, set, refl, sym, ap, ◌∙◌, subst, sum_by, arith, add-zero, Some, is_some}
use Rattle.std.proofs.lemmas.List.Sums.{sum_by-set, sum_by-le}
use Rattle.std.proofs.lemmas.List.{get_or-set_same, get_or-set_other}
use Rattle.std.proofs.lemmas.Bool.Decides.{nat_tests}
use Rattle.commit_desk.specs.declared.event.Event.{Event}
use Rattle.commit_desk.specs.declared.event.Event.TheVariants.{Claimed, Finished, Taken, Committed}
use Rattle.commit_desk.specs.declared.slot.Slot.{Slot}
use Rattle.commit_desk.specs.declared.slot.Slot.TheVariants.{Vacant, Filled, Emptied}
use Rattle.commit_desk.specs.declared.desk.Desk.{Desk}
use Rattle.commit_desk.specs.History.{has, claimed_count, committed_count, may_follow, is_legal}
use Rattle.commit_desk.specs.Slots.{is_finished, is_emptied, piece_in, event_count}
use Rattle.commit_desk.proofs.Histories.{both_true, or_false, is_le, is_lt, is_eq, eq_is, ne_is, is_legal-push, has-push, claimed_count-push, committed_count-push}

-- what a desk's fields say of its history
pub record Kept {C : Type 0} (ahead claimed committed : ℕ) (slots : List (Slot C)) (history : List Event) : Type 0 where
  pub legal : is_legal ahead history ≡ true
  pub claims : claimed ≡ claimed_count history
  pub commits : committed ≡ committed_count history
  pub claimed_pages : (p : ℕ) → has history (Claimed p) ≡ (nat_lt 0 p && nat_le p claimed)
  pub finished_pages : (p : ℕ) → has history (Finished p) ≡ is_finished (get_or slots p Vacant)
  pub taken_pages : (p : ℕ) → has history (Taken p) ≡ is_emptied (get_or slots p Vacant)

pub kept_of : {C : Type 0} (desk : Desk C) → Kept desk.ahead desk.claimed desk.committed desk.slots.items desk.history.items
kept_of desk = record {
  legal = desk.legal;
  claims = desk.claims;
  commits = desk.commits;
  claimed_pages = desk.claimed_pages;
  finished_pages = desk.finished_pages;
  taken_pages = desk.taken_pages;
}

lies : {C : Type 0} (slot : Slot C) → is_some (piece_in slot) ≡ (is_finished slot && not (is_emptied slot))
lies Vacant = refl
lies (Filled piece) = refl
lies Emptied = refl

-- a page's piece lies on the desk where the page was finished and not taken
pub pieces : {C : Type 0} (ahead n m : ℕ) (slots : List (Slot C)) (h : List Event) → Kept ahead n m slots h → (p : ℕ) → is_some (piece_in (get_or slots p Vacant)) ≡ (has h (Finished p) && not (has h (Taken p)))
pieces ahead n m slots h k p = lies _ ∙ ap (λ a. a && not (is_emptied (get_or slots p Vacant))) (sym (k.finished_pages p)) ∙ ap (λ b. has h (Finished p) && not b) (sym (k.taken_pages p))

claimed_more : (p n : ℕ) → ((nat_lt 0 p && nat_le p n) || (p == n + 1)) ≡ (nat_lt 0 p && nat_le p (n + 1))
claimed_more p n = grind (arith, nat_tests)

both_le : (p n : ℕ) → 0 < p → p ≤ n → (nat_lt 0 p && nat_le p n) ≡ true
both_le p n up in' = grind (arith, nat_tests)

claim_may : (ahead n m : ℕ) (h : List Event) → n ≡ claimed_count h → m ≡ committed_count h → n + 1 ≤ m + ahead → may_follow ahead h (Claimed (n + 1)) ≡ true
claim_may ahead n m h c r room =
    both_true _ _ (is_eq (n + 1) (claimed_count h + 1) (ap (λ k. k + 1) c)) (is_le (n + 1) (committed_count h + ahead) (omega arith))

commit_may : (ahead n m k : ℕ) (h : List Event) → n ≡ claimed_count h → m ≡ committed_count h → m < k → k ≤ n → may_follow ahead h (Committed k) ≡ true
commit_may ahead n m k h c r up room = both_true _ _ (is_lt (committed_count h) k (omega arith)) (is_le k (claimed_count h) (omega arith))

pub at_set : {C : Type 0} {B : Type 0} (f : Slot C → B) (slots : List (Slot C)) (page p : ℕ) (x : Slot C) → page < length slots → f (get_or (set slots page x) p Vacant) ≡ cond (p == page) (f x) (f (get_or slots p Vacant))
at_set f slots page p x in' =
    let at : (b : Bool) → (p == page) ≡ b → f (get_or (set slots page x) p Vacant) ≡ cond b (f x) (f (get_or slots p Vacant)) =
    elim [
      | true ↦ λ e. ap (λ k. f (get_or (set slots page x) k Vacant)) (eq_is p page e) ∙ ap f (get_or-set_same slots page x Vacant in')
      | false ↦ λ e. ap f (get_or-set_other slots page p x Vacant (ne_is p page e))
    ] in
    at (p == page) refl

or_pick : (a b : Bool) → (a || b) ≡ cond b true a
or_pick true true = refl
or_pick true false = refl
or_pick false true = refl
or_pick false false = refl

same_pick : (a b v : Bool) → (b ≡ true → a ≡ v) → (a || false) ≡ cond b v a
same_pick a true v e = or_false a ∙ e refl
same_pick a false v e = or_false a

pub claim_step : {C : Type 0} (ahead n m : ℕ) (slots : List (Slot C)) (h now : List Event) → Kept ahead n m slots h → n + 1 ≤ m + ahead → now ≡ h ++ Claimed (n + 1) ∷ [] → Kept ahead (n + 1) m slots now
claim_step ahead n m slots h now k room is =
    let e = Claimed (n + 1) in
    let P : List Event → Type 0 = λ x. Kept ahead (n + 1) m slots x in
    subst P (sym is) (record {
      legal = is_legal-push ahead h e k.legal (claim_may ahead n m h k.claims k.commits room);
      claims = ap (λ x. x + 1) k.claims ∙ sym (claimed_count-push h e);
      commits = k.commits ∙ sym (committed_count-push h e);
      claimed_pages = λ p. has-push h e (Claimed p) ∙ ap (λ x. x || (p == n + 1)) (k.claimed_pages p) ∙ claimed_more p n;
      finished_pages = λ p. has-push h e (Finished p) ∙ or_false _ ∙ k.finished_pages p;
      taken_pages = λ p. has-push h e (Taken p) ∙ or_false _ ∙ k.taken_pages p;
    })

pub commit_step : {C : Type 0} (ahead n m i : ℕ) (slots : List (Slot C)) (h now : List Event) → Kept ahead n m slots h → m < i → i ≤ n → now ≡ h ++ Committed i ∷ [] → Kept ahead n i slots now
commit_step ahead n m i slots h now k up room is =
    let e = Committed i in
    let P : List Event → Type 0 = λ x. Kept ahead n i slots x in
    subst P (sym is) (record {
      legal = is_legal-push ahead h e k.legal (commit_may ahead n m i h k.claims k.commits up room);
      claims = k.claims ∙ sym (add-zero (claimed_count h)) ∙ sym (claimed_count-push h e);
      commits = sym (committed_count-push h e);
      claimed_pages = λ p. has-push h e (Claimed p) ∙ or_false _ ∙ k.claimed_pages p;
      finished_pages = λ p. has-push h e (Finished p) ∙ or_false _ ∙ k.finished_pages p;
      taken_pages = λ p. has-push h e (Taken p) ∙ or_false _ ∙ k.taken_pages p;
    })

vacant_is_full : {C : Type 0} (x : Slot C) → is_finished x ≡ false → is_emptied x ≡ false
vacant_is_full Vacant e = refl
vacant_is_full (Filled piece) e = refl
vacant_is_full Emptied e = cc

pub finish_step : {C : Type 0} (ahead n m page : ℕ) (c : C) (slots : List (Slot C)) (h now : List Event) → Kept ahead n m slots h → 0 < page → page ≤ n → page < length slots → is_finished (get_or slots page Vacant) ≡ false → now ≡ h ++ Finished page ∷ [] → Kept ahead n m (set slots page (Filled c)) now
finish_step ahead n m page c slots h now k up room in' vacant is =
    let e = Finished page in
    let P : List Event → Type 0 = λ x. Kept ahead n m (set slots page (Filled c)) x in
    subst P (sym is) (record {
      legal = is_legal-push ahead h e k.legal (both_true _ _ (k.claimed_pages page ∙ both_le page n up room) (ap not (k.finished_pages page ∙ vacant)));
      claims = k.claims ∙ sym (add-zero (claimed_count h)) ∙ sym (claimed_count-push h e);
      commits = k.commits ∙ sym (committed_count-push h e);
      claimed_pages = λ p. has-push h e (Claimed p) ∙ or_false _ ∙ k.claimed_pages p;
      finished_pages = λ p. has-push h e (Finished p) ∙ or_pick (has h (Finished p)) (p == page) ∙ ap (λ x. cond (p == page) true x) (k.finished_pages p) ∙ sym (at_set is_finished slots page p (Filled c) in');
      taken_pages = λ p. has-push h e (Taken p) ∙ ap (λ x. x || false) (k.taken_pages p)
          ∙ same_pick _ (p == page) false (λ b. ap (λ q. is_emptied (get_or slots q Vacant)) (eq_is p page b) ∙ vacant_is_full _ vacant)
          ∙ sym (at_set is_emptied slots page p (Filled c) in');
    })

empty_step : {C : Type 0} (ahead n m page : ℕ) (slots : List (Slot C)) (h now : List Event) → Kept ahead n m slots h → page < length slots → is_finished (get_or slots page Vacant) ≡ true → is_emptied (get_or slots page Vacant) ≡ false → now ≡ h ++ Taken page ∷ [] → Kept ahead n m (set slots page Emptied) now
empty_step ahead n m page slots h now k in' finished full is =
    let e = Taken page in
    let P : List Event → Type 0 = λ x. Kept ahead n m (set slots page Emptied) x in
    subst P (sym is) (record {
      legal = is_legal-push ahead h e k.legal (both_true _ _ (k.finished_pages page ∙ finished) (ap not (k.taken_pages page ∙ full)));
      claims = k.claims ∙ sym (add-zero (claimed_count h)) ∙ sym (claimed_count-push h e);
      commits = k.commits ∙ sym (committed_count-push h e);
      claimed_pages = λ p. has-push h e (Claimed p) ∙ or_false _ ∙ k.claimed_pages p;
      finished_pages = λ p. has-push h e (Finished p) ∙ ap (λ x. x || false) (k.finished_pages p)
          ∙ same_pick _ (p == page) true (λ b. ap (λ q. is_finished (get_or slots q Vacant)) (eq_is p page b) ∙ finished)
          ∙ sym (at_set is_finished slots page p Emptied in');
      taken_pages = λ p. has-push h e (Taken p) ∙ or_pick (has h (Taken p)) (p == page) ∙ ap (λ x. cond (p == page) true x) (k.taken_pages p) ∙ sym (at_set is_emptied slots page p Emptied in');
    })

pub take_step : {C : Type 0} (ahead n m page : ℕ) (x : Slot C) (slots : List (Slot C)) (h now : List Event) → Kept ahead n m slots h → page < length slots → x ≡ Emptied → is_finished (get_or slots page Vacant) ≡ true → is_emptied (get_or slots page Vacant) ≡ false → now ≡ h ++ Taken page ∷ [] → Kept ahead n m (set slots page x) now
take_step ahead n m page x slots h now k in' empty finished full is =
    let P : Slot _ → Type 0 = λ y. Kept ahead n m (set slots page y) now in
    subst P (sym empty) (empty_step ahead n m page slots h now k in' finished full is)

at_most_two : {C : Type 0} (x : Slot C) → event_count x ≤ 2
at_most_two Vacant = omega arith
at_most_two (Filled piece) = omega arith
at_most_two Emptied = omega arith

-- all slots together account for at most two events each
pub event_counts_le : {C : Type 0} (slots : List (Slot C)) → sum_by event_count slots ≤ length slots * 2
event_counts_le slots = sum_by-le event_count 2 slots (λ k d in'. at_most_two _)

-- a slot that accounts for one event more
pub event_counts-set : {C : Type 0} (slots : List (Slot C)) (page : ℕ) (x : Slot C) → page < length slots → event_count x ≡ event_count (get_or slots page Vacant) + 1 → sum_by event_count (set slots page x) ≡ sum_by event_count slots + 1
event_counts-set slots page x in' more = omega (arith, sum_by-set event_count slots page x Vacant in', more)

pub vacant_counts : {C : Type 0} (x : Slot C) → is_finished x ≡ false → event_count x ≡ 0
vacant_counts Vacant e = refl
vacant_counts (Filled piece) e = cc
vacant_counts Emptied e = cc

pub filled_is : {C : Type 0} (x : Slot C) (c : C) → piece_in x ≡ Some c → (is_finished x ≡ true) × (is_emptied x ≡ false) × (event_count x ≡ 1)
filled_is Vacant c e = cc
filled_is (Filled piece) c e = (refl, refl, refl)
filled_is Emptied c e = cc
