-- What the calls of a desk make of it, and what that says of the pieces taken.
use Rattle.std.proofs.Common.{◌≡◌, ◌⊎◌, ℕ, zero, suc, ◌+◌, ◌<◌, ◌≤◌, List, [], ◌∷◌, ◌++◌, Bool, true, false, ◌==◌, cond, length, get_or, Some, None, Contains, count_by, refl, sym, ap, ◌∙◌, subst, inl, inr, arith}
use Rattle.std.proofs.lemmas.List.Sums.{sum_by_push}
use Rattle.std.proofs.lemmas.Option.{same_Some}
use Rattle.commit_desk.specs.declared.event.Event.{Event}
use Rattle.commit_desk.specs.declared.event.Event.TheVariants.{Claimed, Finished, Taken, Committed}
use Rattle.commit_desk.specs.declared.desk.Desk.{Desk}
use Rattle.commit_desk.specs.History.{is_same}
use Rattle.commit_desk.specs.State.{DeskState, after}
use Rattle.commit_desk.specs.Desk.{state_of, piece_on, Adds, Unchanged, LaysDown, TakesAway}
use Rattle.commit_desk.specs.Calls.{Call, claim, finish, take, done, event_of, history_after, piece_after, TakesWhatLies, IsMadeBy}
use Rattle.commit_desk.proofs.Histories.{is_eq, eq_is}
use Rattle.commit_desk.proofs.Once.{legal_once}

-- the history after one call more
grows : {C : Type 0} (old new : Desk C) (calls : List (Call C)) (event : Event) → state_of new ≡ after (state_of old) (event ∷ []) → IsMadeBy calls old → (state_of new).history ≡ history_after calls ++ event ∷ []
grows old new calls event is made = ap (λ s. DeskState.history s) is ∙ ap (λ h. h ++ event ∷ []) made.history

pub made_by_same : {C : Type 0} (old new : Desk C) (calls : List (Call C)) → Unchanged old new → IsMadeBy calls old → IsMadeBy calls new
made_by_same old new calls same made = record {
  history = ap (λ s. DeskState.history s) same.0 ∙ made.history;
  pieces = λ page. same.1 page ∙ made.pieces page;
  takings = made.takings;
}

pub made_by_claim : {C : Type 0} (old new : Desk C) (calls : List (Call C)) (page : ℕ) → Adds old new (Claimed page ∷ []) → IsMadeBy calls old → IsMadeBy (claim page ∷ calls) new
made_by_claim old new calls page adds made = record {
  history = grows old new calls (Claimed page) adds.0 made;
  pieces = λ p. adds.1 p ∙ made.pieces p;
  takings = made.takings;
}

pub made_by_done : {C : Type 0} (old new : Desk C) (calls : List (Call C)) (count : ℕ) → Adds old new (Committed count ∷ []) → IsMadeBy calls old → IsMadeBy (done count ∷ calls) new
made_by_done old new calls count adds made = record {
  history = grows old new calls (Committed count) adds.0 made;
  pieces = λ p. adds.1 p ∙ made.pieces p;
  takings = made.takings;
}

pub made_by_finish : {C : Type 0} (old new : Desk C) (calls : List (Call C)) (page : ℕ) (piece : C) → LaysDown old new page piece → IsMadeBy calls old → IsMadeBy (finish page piece ∷ calls) new
made_by_finish old new calls page piece lays made = record {
  history = grows old new calls (Finished page) lays.0 made;
  pieces = λ p. lays.1 p ∙ ap (λ o. cond (p == page) (Some piece) o) (made.pieces p);
  takings = made.takings;
}

pub made_by_take : {C : Type 0} (old new : Desk C) (calls : List (Call C)) (page : ℕ) (piece : C) → piece_on old page ≡ Some piece → TakesAway old new page → IsMadeBy calls old → IsMadeBy (take page piece ∷ calls) new
made_by_take old new calls page piece lay takes made = record {
  history = grows old new calls (Taken page) takes.0 made;
  pieces = λ p. takes.1 p ∙ ap (λ o. cond (p == page) None o) (made.pieces p);
  takings = (sym (made.pieces page) ∙ lay, made.takings);
}

Contains-cons : {X : Type 0} (head x : X) (rest : List X) → Contains rest x → Contains (head ∷ rest) x
Contains-cons head x rest p = (suc p.0, omega (arith, p.1), p.2)

Contains-cons_cases : {X : Type 0} (head x : X) (rest : List X) → Contains (head ∷ rest) x → (head ≡ x) ⊎ Contains rest x
Contains-cons_cases {X} head x rest p = by_index p.0 p.1 p.2
  where
    by_index : (k : ℕ) → k < suc (length rest) → get_or (head ∷ rest) k x ≡ x → (head ≡ x) ⊎ Contains rest x
    by_index zero within found = inl found
    by_index (suc k) within found = inr (k, omega arith, found)

-- what is left out of a run is a run
earlier_takings : {C : Type 0} (later calls : List (Call C)) → TakesWhatLies (later ++ calls) → TakesWhatLies calls
earlier_takings [] calls t = t
earlier_takings (claim p ∷ later) calls t = earlier_takings later calls t
earlier_takings (finish p piece ∷ later) calls t = earlier_takings later calls t
earlier_takings (take p piece ∷ later) calls t = earlier_takings later calls t.1
earlier_takings (done count ∷ later) calls t = earlier_takings later calls t

-- a piece that lies there was laid down
lying_was_laid : {C : Type 0} (calls : List (Call C)) (page : ℕ) (piece : C) → piece_after calls page ≡ Some piece → Contains calls (finish page piece)
lying_was_laid [] page piece e = cc
lying_was_laid (claim p ∷ earlier) page piece e = Contains-cons _ _ earlier (lying_was_laid earlier page piece e)
lying_was_laid (done count ∷ earlier) page piece e = Contains-cons _ _ earlier (lying_was_laid earlier page piece e)
lying_was_laid {C} (take p taken ∷ earlier) page piece e = by_page (page == p) e (lying_was_laid earlier page piece)
  where
    by_page : (b : Bool) → cond b None (piece_after earlier page) ≡ Some piece → (piece_after earlier page ≡ Some piece → Contains earlier (finish page piece)) → Contains (take p taken ∷ earlier) (finish page piece)
    by_page true e before = cc
    by_page false e before = Contains-cons _ _ earlier (before e)
lying_was_laid {C} (finish p laid ∷ earlier) page piece e = by_page (page == p) refl e (lying_was_laid earlier page piece)
  where
    by_page : (b : Bool) → (page == p) ≡ b → cond b (Some laid) (piece_after earlier page) ≡ Some piece → (piece_after earlier page ≡ Some piece → Contains earlier (finish page piece)) → Contains (finish p laid ∷ earlier) (finish page piece)
    by_page true same e before = (0, omega arith, ap (λ q. finish q laid) (sym (eq_is page p same)) ∙ ap (λ c. finish page c) (same_Some laid piece e))
    by_page false other e before = Contains-cons _ _ earlier (before e)

pub taken_was_laid : {C : Type 0} (desk : Desk C) (later earlier : List (Call C)) (page : ℕ) (piece : C) → IsMadeBy (later ++ take page piece ∷ earlier) desk → Contains earlier (finish page piece)
taken_was_laid desk later earlier page piece made = lying_was_laid earlier page piece (earlier_takings later (take page piece ∷ earlier) made.takings).0

-- how often the page was finished
finish_count : {C : Type 0} → ℕ → List (Call C) → ℕ
finish_count page calls = count_by (is_same (Finished page)) (history_after calls)

finish_count-cons : {C : Type 0} (page : ℕ) (call : Call C) (earlier : List (Call C)) → finish_count page (call ∷ earlier) ≡ finish_count page earlier + cond (is_same (Finished page) (event_of call)) 1 0
unfolding finish_count
finish_count-cons page call earlier = sum_by_push (λ x. cond (is_same (Finished page) x) 1 0) (history_after earlier) (event_of call)

finish_counts : {C : Type 0} (page : ℕ) (piece : C) (earlier : List (Call C)) → finish_count page (finish page piece ∷ earlier) ≡ finish_count page earlier + 1
finish_counts page piece earlier = finish_count-cons page (finish page piece) earlier ∙ ap (λ b. finish_count page earlier + cond b 1 0) (is_eq page page refl)

contained_counts : {C : Type 0} (page : ℕ) (piece : C) (calls : List (Call C)) → Contains calls (finish page piece) → 1 ≤ finish_count page calls
contained_counts page piece [] c = absurd (let lt = c.1 in omega (arith, lt))
contained_counts {C} page piece (call ∷ earlier) c = by_case (Contains-cons_cases call (finish page piece) earlier c) (contained_counts page piece earlier)
  where
    by_case : (call ≡ finish page piece) ⊎ Contains earlier (finish page piece) → (Contains earlier (finish page piece) → 1 ≤ finish_count page earlier) → 1 ≤ finish_count page (call ∷ earlier)
    by_case (inl is) before = let n = ap (λ x. finish_count page (x ∷ earlier)) is ∙ finish_counts page piece earlier in omega (arith, n)
    by_case (inr in') before = let n = finish_count-cons page call earlier in let more = before in' in omega (arith, n, more)

laid_by : {C : Type 0} → C → Call C → C
laid_by piece (finish page laid) = laid
laid_by piece (claim page) = piece
laid_by piece (take page taken) = piece
laid_by piece (done count) = piece

same_piece : {C : Type 0} (page : ℕ) (piece other : C) → finish page piece ≡ finish page other → piece ≡ other
unfolding laid_by
same_piece page piece other e = ap (laid_by piece) e

finished_once : {C : Type 0} (page : ℕ) (piece other : C) (calls : List (Call C)) → finish_count page calls ≤ 1 → Contains calls (finish page piece) → Contains calls (finish page other) → piece ≡ other
finished_once page piece other [] once c d = absurd (let lt = c.1 in omega (arith, lt))
finished_once {C} page piece other (call ∷ earlier) once c d =
    by_cases (Contains-cons_cases call (finish page piece) earlier c) (Contains-cons_cases call (finish page other) earlier d)
    (finished_once page piece other earlier (let n = finish_count-cons page call earlier in omega (arith, n, once)))
  where
    twice : (laid kept : C) → call ≡ finish page laid → Contains earlier (finish page kept) → piece ≡ other
    twice laid kept is in' =
        let n = ap (λ x. finish_count page (x ∷ earlier)) is ∙ finish_counts page laid earlier in
        let more = contained_counts page kept earlier in' in
        absurd (omega (arith, n, more, once))

    by_cases : (call ≡ finish page piece) ⊎ Contains earlier (finish page piece) → (call ≡ finish page other) ⊎ Contains earlier (finish page other) → (Contains earlier (finish page piece) → Contains earlier (finish page other) → piece ≡ other) → piece ≡ other
    by_cases (inl a) (inl b) before = same_piece page piece other (sym a ∙ b)
    by_cases (inl a) (inr b) before = twice piece other a b
    by_cases (inr a) (inl b) before = twice other piece b a
    by_cases (inr a) (inr b) before = before a b

pub laid_once : {C : Type 0} (desk : Desk C) (calls : List (Call C)) (page : ℕ) (piece other : C) → IsMadeBy calls desk → Contains calls (finish page piece) → Contains calls (finish page other) → piece ≡ other
unfolding finish_count
laid_once desk calls page piece other made c d =
    let P : List Event → Type 0 = λ h. count_by (is_same (Finished page)) h ≤ 1 in
    finished_once page piece other calls (subst P made.history ((legal_once desk.ahead desk.history.items desk.legal).finishes page)) c d
