-- By induction over the application.
use Rattle.std.proofs.Common.{◌≡◌, suc, Bool, true, false, not, cond, List, [], ◌∷◌, Option, Some, None, option_map, Result, Ok, refl, sym, ap, ◌∙◌, subst}
use Rattle.ps_objects.specs.declared.cell.Cell.{Cell}
use Rattle.ps_objects.specs.declared.cell.SaveName.{SaveName}
use Rattle.ps_names.specs.declared.error_name.ErrorName.{ErrorName}
use Rattle.ps_objects.specs.declared.place.Loc.{Loc}
use Rattle.ps_objects.specs.declared.place.Value.{Value}
use Rattle.ps_objects.specs.declared.place.Shape.{Shape}
use Rattle.ps_kinds.specs.declared.act.Act.TheVariants as act
use Rattle.ps_kinds.specs.declared.frame.Frame.{Frame}
use Rattle.ps_kinds.specs.declared.state.State.{State}
use Rattle.ps_memory.specs.Memory.{Memory, value_at, shape_of, restore, perform}
use Rattle.ps_memory.specs.Tree.{Change, puts, makes, opens, action_of, Application, done, restores, fail, look, ask, Tree, ends, changes, result, after, trail}
use Rattle.ps_memory.specs.Ownership.{has_save}
use Rattle.ps_memory.specs.Track.{Track, saw, track_acted, track_on, outer_on}
use Rattle.ps_meaning.specs.Answer.{changed_in, names_taken, act_done, state_done, Effect, Answer, answer_over, outer_in, taken_by, AnswersAs, AnswersRun, AnswerLaw}

abbrev Ended : Effect → Tree (Result Effect ErrorName)
Ended e = ends (Ok e)

-- changes alone have no outer restore
no_outer : (ws : List Change) (e : Effect) (M : Memory) (k : Track) → outer_on (changes ws (Ended e)) M k ≡ None
no_outer [] e M k = refl
no_outer (puts l v ∷ ws) e M k = no_outer ws e (perform (action_of (puts l v)) M) (track_acted (action_of (puts l v)) k)
no_outer (makes c sh ∷ ws) e M k = no_outer ws e (perform (action_of (makes c sh)) M) (track_acted (action_of (makes c sh)) k)
no_outer (opens s ∷ ws) e M k = no_outer ws e (perform (action_of (opens s)) M) (track_acted (action_of (opens s)) k)

logged : (ws : List Change) (e : Effect) (M : Memory) (k : Option Track) → changed_in (record { view = M; track = k }) ws ≡ record { view = after (changes ws (Ended e)) M; track = option_map (track_on (changes ws (Ended e)) M) k }
logged [] e M None = refl
logged [] e M (Some k) = refl
logged (w ∷ ws) e M None = logged ws e (perform (action_of w) M) None
logged (w ∷ ws) e M (Some k) = logged ws e (perform (action_of w) M) (Some (track_acted (action_of w) k))

ends_so : (ws : List Change) (e : Effect) (M : Memory) → result (changes ws (Ended e)) M ≡ Ok e
ends_so [] e M = refl
ends_so (w ∷ ws) e M = ends_so ws e (perform (action_of w) M)

taken : (ws : List Change) (e : Effect) (M : Memory) → taken_by (trail (changes ws (Ended e)) M) ≡ names_taken ws
taken [] e M = refl
taken (puts l v ∷ ws) e M = taken ws e (perform (action_of (puts l v)) M)
taken (makes c sh ∷ ws) e M = ap suc (taken ws e (perform (action_of (makes c sh)) M))
taken (opens s ∷ ws) e M = ap suc (taken ws e (perform (action_of (opens s)) M))

-- an ending with changes
outcome_of : (below : List Frame) (ws : List Change) (e : Effect) (M : Memory) (s : State) (r : Answer) → r.act ≡ act_done e.act → r.state ≡ state_done (names_taken ws) below s e
    → AnswersAs below (result (changes ws (Ended e)) M) (taken_by (trail (changes ws (Ended e)) M)) s r
outcome_of below ws e M s r p q = subst (λ o. AnswersAs below o (taken_by (trail (changes ws (Ended e)) M)) s r) (sym (ends_so ws e M)) (p, q ∙ ap (λ n. state_done n below s e) (sym (taken ws e M)))

after_look : (below : List Frame) (l : Loc) (f : Value → Application Effect) (s : State) (M : Memory) (k : Track) (r : Answer) (o : Option SaveName) → AnswersRun below (f (value_at M l)) s M (Some (saw l k)) r o → AnswersRun below (look l f) s M (Some k) r o
after_look below l f s M k r None h = record { log = h.log; outcome = h.outcome }
after_look below l f s M k r (Some q) h = h

after_ask : (below : List Frame) (c : Cell) (f : Shape → Application Effect) (s : State) (M : Memory) (k : Track) (r : Answer) (o : Option SaveName) → AnswersRun below (f (shape_of M c)) s M (Some k) r o → AnswersRun below (ask c f) s M (Some k) r o
after_ask below c f s M k r None h = record { log = h.log; outcome = h.outcome }
after_ask below c f s M k r (Some q) h = h

pub answer_law : AnswerLaw
answer_law below (done ws e) s M None = record { log = logged ws e M None; outcome = outcome_of below ws e M s (answer_over below (done ws e) s (record { view = M; track = None })) refl refl }
answer_law below (done ws e) s M (Some k) =
    let r = answer_over below (done ws e) s (record { view = M; track = Some k }) in
    subst (AnswersRun below (done ws e) s M (Some k) r) (sym (no_outer ws e M k)) (record { log = logged ws e M (Some k); outcome = outcome_of below ws e M s r refl refl })
answer_law below (fail e) s M None = record { log = refl; outcome = (refl, refl) }
answer_law below (fail e) s M (Some k) = record { log = refl; outcome = (refl, refl) }
answer_law below (restores q ws e) s M None =
    let N = perform (restore q) M in
    record { log = logged ws e N None; outcome = outcome_of below ws e N s (answer_over below (restores q ws e) s (record { view = M; track = None })) refl refl }
answer_law below (restores q ws e) s M (Some k) = go (has_save q k.owned.saves)
  where
    N : Memory
    N = perform (restore q) M

    there : Track
    there = track_acted (restore q) k

    refused : Answer
    refused = record { act = act.Outer q; state = s; log = record { view = M; track = Some k } }

    restored : Answer
    restored = record { act = act_done e.act; state = state_done (names_taken ws) below s e; log = changed_in (record { view = N; track = Some there }) ws }

    go : (b : Bool) → AnswersRun below (restores q ws e) s M (Some k) (cond (not b) refused restored) (cond b (outer_on (changes ws (Ended e)) N there) (Some q))
    go true = subst (AnswersRun below (restores q ws e) s M (Some k) restored) (sym (no_outer ws e N there)) (record { log = logged ws e N (Some there); outcome = outcome_of below ws e N s restored refl refl })
    go false = record { act = refl; state = refl; view = refl }
answer_law below (look l f) s M None = let r = answer_law below (f (value_at M l)) s M None in record { log = r.log; outcome = r.outcome }
answer_law below (look l f) s M (Some k) =
    after_look below l f s M k (answer_over below (f (value_at M l)) s (record { view = M; track = Some (saw l k) })) (outer_in (f (value_at M l)) M (Some (saw l k))) (answer_law below (f (value_at M l)) s M (Some (saw l k)))
answer_law below (ask c f) s M None = let r = answer_law below (f (shape_of M c)) s M None in record { log = r.log; outcome = r.outcome }
answer_law below (ask c f) s M (Some k) =
    after_ask below c f s M k (answer_over below (f (shape_of M c)) s (record { view = M; track = Some k })) (outer_in (f (shape_of M c)) M (Some k)) (answer_law below (f (shape_of M c)) s M (Some k))
