-- What a legal history says of each page.
use Rattle.std.proofs.Common.{◌≡◌, ℕ, ◌+◌, ◌<◌, ◌≤◌, List, [], ◌∷◌, ◌++◌, Bool, true, false, not, ◌||◌, ◌==◌, nat_lt, nat_le, cond, refl, sym, ap, ◌∙◌, subst, count_by, arith, append_assoc, append-nil}
use Rattle.std.specs.List.{list_any}
use Rattle.std.proofs.lemmas.List.Sums.{sum_by_push, sum_by-cons}
use Rattle.commit_desk.specs.declared.event.Event.{Event}
use Rattle.commit_desk.specs.declared.event.Event.TheVariants.{Claimed, Finished, Taken, Committed}
use Rattle.commit_desk.specs.History.{is_same, has, claimed_count, committed_count, may_follow, may_all_follow, is_legal}
use Rattle.commit_desk.proofs.Histories.{first_true, second_true, claimed_count-push, committed_count-push, has-push, eq_is, le_is, lt_is}

not_is : (b : Bool) → not b ≡ true → b ≡ false
not_is true e = cc
not_is false e = refl

or_none : (a b : Bool) → (a || b) ≡ false → (a ≡ false) × (b ≡ false)
or_none true b e = cc
or_none false b e = (refl, e)

none_counts : (p : Event → Bool) (h : List Event) → list_any p h ≡ false → count_by p h ≡ 0
none_counts p [] e = refl
none_counts p (x ∷ h) e =
    let o = or_none (p x) (list_any p h) e in
    sum_by-cons (λ y. cond (p y) 1 0) x h ∙ ap (λ (b : Bool). cond b 1 0 + count_by p h) o.0 ∙ (let r = none_counts p h o.1 in omega (arith, r))

once_push : (x : Event) (h : List Event) (e : Event) → count_by (is_same x) h ≤ 1 → (is_same x e ≡ true → has h x ≡ false) → count_by (is_same x) (h ++ e ∷ []) ≤ 1
once_push x h e le new =
    let push : count_by (is_same x) (h ++ e ∷ []) ≡ count_by (is_same x) h + cond (is_same x e) 1 0 = sum_by_push (λ y. cond (is_same x y) 1 0) h e in
    let cases : (b : Bool) → is_same x e ≡ b → cond b 1 0 + count_by (is_same x) h ≤ 1 = elim [
      | true ↦ λ s. let z = none_counts (is_same x) h (new s) in omega (arith, z)
      | false ↦ λ s. omega arith
    ] in
    let c = cases (is_same x e) refl in omega (arith, push, c)

pub record Once (ahead : ℕ) (h : List Event) : Type 0 where
  pub claims : (p : ℕ) → count_by (is_same (Claimed p)) h ≤ 1
  pub finishes : (p : ℕ) → count_by (is_same (Finished p)) h ≤ 1
  pub takings : (p : ℕ) → count_by (is_same (Taken p)) h ≤ 1
  pub high : (p : ℕ) → has h (Claimed p) ≡ true → p ≤ claimed_count h
  pub near : claimed_count h ≤ committed_count h + ahead

not_claimed : (h : List Event) (p : ℕ) (b : Bool) → has h (Claimed p) ≡ b → (has h (Claimed p) ≡ true → p ≤ claimed_count h) → claimed_count h < p → has h (Claimed p) ≡ false
not_claimed h p true e high up = absurd (let l = high e in omega (arith, l, up))
not_claimed h p false e high up = e

high_push : (h : List Event) (e : Event) (p : ℕ) (b : Bool) → has h (Claimed p) ≡ b → (has h (Claimed p) ≡ true → p ≤ claimed_count h) → (is_same (Claimed p) e ≡ true → p ≤ claimed_count (h ++ e ∷ [])) → has (h ++ e ∷ []) (Claimed p) ≡ true → p ≤ claimed_count (h ++ e ∷ [])
high_push h e p true at old new is = let l = old at in let c = claimed_count-push h e in omega (arith, l, c)
high_push h e p false at old new is = new (ap (λ x. x || is_same (Claimed p) e) (sym at) ∙ sym (has-push h e (Claimed p)) ∙ is)

no : {A : Type 0} → false ≡ true → A
no e = absurd (cc)

once_step : (ahead : ℕ) (h : List Event) (e : Event) → Once ahead h → may_follow ahead h e ≡ true → Once ahead (h ++ e ∷ [])
once_step ahead h (Claimed q) o m =
    let e = Claimed q in
    let is : q ≡ claimed_count h + 1 = eq_is q (claimed_count h + 1) (first_true (q == claimed_count h + 1) (nat_le q (committed_count h + ahead)) m) in
    let room : q ≤ committed_count h + ahead = le_is q (committed_count h + ahead) (second_true (q == claimed_count h + 1) (nat_le q (committed_count h + ahead)) m) in
    let c : claimed_count (h ++ e ∷ []) ≡ claimed_count h + 1 = claimed_count-push h e in
    record {
      claims = λ p. once_push (Claimed p) h e (o.claims p) (λ s. let same = eq_is p q s in not_claimed h p (has h (Claimed p)) refl (o.high p) (omega (arith, same, is)));
      finishes = λ p. once_push (Finished p) h e (o.finishes p) no;
      takings = λ p. once_push (Taken p) h e (o.takings p) no;
      high = λ p. high_push h e p (has h (Claimed p)) refl (o.high p) (λ s. let same = eq_is p q s in omega (arith, same, is, c));
      near = let r : committed_count (h ++ e ∷ []) ≡ committed_count h = committed_count-push h e in omega (arith, r, c, is, room);
    }
once_step ahead h (Finished q) o m =
    let e = Finished q in
    let c : claimed_count (h ++ e ∷ []) ≡ claimed_count h + 0 = claimed_count-push h e in
    record {
      claims = λ p. once_push (Claimed p) h e (o.claims p) no;
      finishes = λ p. once_push (Finished p) h e (o.finishes p) (λ s. ap (λ x. has h (Finished x)) (eq_is p q s) ∙ not_is _ (second_true _ _ m));
      takings = λ p. once_push (Taken p) h e (o.takings p) no;
      high = λ p. high_push h e p (has h (Claimed p)) refl (o.high p) no;
      near = let r : committed_count (h ++ e ∷ []) ≡ committed_count h = committed_count-push h e in omega (arith, r, c, o.near);
    }
once_step ahead h (Taken q) o m =
    let e = Taken q in
    let c : claimed_count (h ++ e ∷ []) ≡ claimed_count h + 0 = claimed_count-push h e in
    record {
      claims = λ p. once_push (Claimed p) h e (o.claims p) no;
      finishes = λ p. once_push (Finished p) h e (o.finishes p) no;
      takings = λ p. once_push (Taken p) h e (o.takings p) (λ s. ap (λ x. has h (Taken x)) (eq_is p q s) ∙ not_is _ (second_true _ _ m));
      high = λ p. high_push h e p (has h (Claimed p)) refl (o.high p) no;
      near = let r : committed_count (h ++ e ∷ []) ≡ committed_count h = committed_count-push h e in omega (arith, r, c, o.near);
    }
once_step ahead h (Committed q) o m =
    let e = Committed q in
    let c : claimed_count (h ++ e ∷ []) ≡ claimed_count h + 0 = claimed_count-push h e in
    record {
      claims = λ p. once_push (Claimed p) h e (o.claims p) no;
      finishes = λ p. once_push (Finished p) h e (o.finishes p) no;
      takings = λ p. once_push (Taken p) h e (o.takings p) no;
      high = λ p. high_push h e p (has h (Claimed p)) refl (o.high p) no;
      near = let r : committed_count (h ++ e ∷ []) ≡ q = committed_count-push h e in let up : committed_count h < q = lt_is (committed_count h) q (first_true (nat_lt (committed_count h) q) (nat_le q (claimed_count h)) m) in omega (arith, r, c, up, o.near);
    }

once_all : (ahead : ℕ) (before es : List Event) → Once ahead before → may_all_follow ahead before es ≡ true → Once ahead (before ++ es)
once_all ahead before [] o m = subst (Once ahead) (sym (append-nil before)) o
once_all ahead before (e ∷ es) o m =
    subst (Once ahead) (append_assoc before (e ∷ []) es) (once_all ahead (before ++ e ∷ []) es (once_step ahead before e o (first_true _ _ m)) (second_true _ _ m))

none : (ahead : ℕ) → Once ahead []
none ahead = record { claims = λ p. omega arith; finishes = λ p. omega arith; takings = λ p. omega arith; high = λ p. no; near = omega arith }

pub legal_once : (ahead : ℕ) (h : List Event) → is_legal ahead h ≡ true → Once ahead h
legal_once ahead h m = once_all ahead [] h (none ahead) m
