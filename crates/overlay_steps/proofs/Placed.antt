-- Steps and their index, as they change.
use Rattle.std.proofs.Common.{◌≡◌, ℕ, suc, Bool, true, false, cond, ◌&&◌, List, [], ◌∷◌, Option, Some, None, refl, sym, ap, ◌∙◌, subst, length, slice_get, nat_eq, ◌<◌, ◌+◌, arith}
use Rattle.std.specs.Map.{lookup}
use Rattle.std.specs.BTreeMap.{is_at}
use Rattle.std.specs.declared.cmp.Ordering.{Ordering}
use Rattle.std.specs.declared.cmp.Ordering.TheVariants.{Less, Equal, Greater}
use Rattle.std.specs.Ordering.{MatchOrdering, nat_cmp, is_eq, ordering_then}
use Rattle.std.specs.Cmp.{IsTotalOrder, eq_by_cmp_equiv, ranks}
use Rattle.ps_objects.specs.declared.cell.Cell.{Cell}
use Rattle.ps_objects.specs.declared.cell.SaveName.{SaveName}
use Rattle.ps_objects.specs.declared.place.Shape.{Shape}
use Rattle.ps_objects.specs.declared.place.Loc.{Loc}
use Rattle.ps_objects.specs.declared.place.Loc.TheVariants as loc
use Rattle.ps_objects.specs.declared.place.Value.{Value}
use Rattle.ps_objects.specs.contracts.place.LocOrd.TheImpl.Laws as loc_laws
use Rattle.ps_memory.specs.Memory.{same_save, Spot, spot_of, Action, store, fresh, save, restore, tell}
use Rattle.ps_memory.specs.Order.{cell_cmp, key_cmp}
use Rattle.ps_memory.specs.Writes.{is_open}
use Rattle.ps_memory.specs.Ownership.{same_cell, same_spot}
use Rattle.overlay_steps.specs.Newest.{newest, saved, revalued, put_at, made, is_anew, put_over}
use Rattle.overlay_steps.specs.declared.pile.Note.{Note}
use Rattle.overlay_steps.specs.declared.pile.Note.TheVariants.{Fresh, Put, Save}
use Rattle.overlay_steps.specs.declared.pile.Step.{Step}
use Rattle.overlay_steps.specs.declared.pile.Mark.{Mark}
use Rattle.overlay_steps.specs.Pile.{action_of, acts, with_value, revalued_step, with_value_at, hidden, TellHidden}
use Rattle.access_log.specs.Order.{loc_cmp}
use Rattle.access_log.proofs.Order.{locs_total, place_same}
use Rattle.overlay_steps.specs.Steps.{marks, is_marked, until_in, IsIndexed, stored_over, IsSteps}
use Rattle.ps_memory.proofs.Order.{cells_total}
use Rattle.overlay_steps.proofs.Piles.{acts_length, acts_put, newest_put, put_length}

-- ---- a store in place of another

hidden_value : (v : Value) (w : Note) (us ws : List Action) → ((p : Spot) → newest p us ≡ newest p ws) → hidden (action_of (with_value v w)) us ≡ hidden (action_of w) ws
hidden_value v (Fresh c sh) us ws h = refl
hidden_value v (Put l u) us ws h = h (spot_of l)
hidden_value v (Save s) us ws h = refl

hidden_same : (w : Note) (us ws : List Action) → ((p : Spot) → newest p us ≡ newest p ws) → hidden (action_of w) us ≡ hidden (action_of w) ws
hidden_same (Fresh c sh) us ws h = refl
hidden_same (Put l u) us ws h = h (spot_of l)
hidden_same (Save s) us ws h = refl

newest_same : (p : Spot) (i : ℕ) (v : Value) (xs : List Step) → newest p (acts (with_value_at i v xs)) ≡ newest p (acts xs)
newest_same p i v xs = ap (newest p) (acts_put i v xs) ∙ newest_put p i v (acts xs)

hidden_put : (i : ℕ) (v : Value) (xs : List Step) → TellHidden xs → TellHidden (with_value_at i v xs)
hidden_put i v [] h = tt
hidden_put i v (x ∷ xs) h = go (nat_eq i (length xs)) (hidden_put i v xs h.1)
  where
    go : (b : Bool) → TellHidden (with_value_at i v xs) → TellHidden (cond b (revalued_step v x ∷ xs) (x ∷ with_value_at i v xs))
    go true ih = (h.0 ∙ sym (hidden_value v x.note (acts xs) (acts xs) (λ p. refl)), h.1)
    go false ih = (h.0 ∙ sym (hidden_same x.note (acts (with_value_at i v xs)) (acts xs) (λ p. newest_same p i v xs)), ih)

marks_revalued : (v : Value) (w : Action) (ws : List Action) → marks (revalued v w ∷ ws) ≡ marks (w ∷ ws)
marks_revalued v (store l u) ws = refl
marks_revalued v (fresh c sh) ws = refl
marks_revalued v (save s) ws = refl
marks_revalued v (restore s) ws = refl
marks_revalued v (tell o) ws = refl

marks_over : (w : Action) (us ws : List Action) → length us ≡ length ws → marks us ≡ marks ws → marks (w ∷ us) ≡ marks (w ∷ ws)
marks_over (store l u) us ws n e = e
marks_over (fresh c sh) us ws n e = e
marks_over (save s) us ws n e = λ i. record { name = s; until = suc (n i) } ∷ e i
marks_over (restore s) us ws n e = e
marks_over (tell o) us ws n e = e

marks_put : (i : ℕ) (v : Value) (ws : List Action) → marks (put_at i v ws) ≡ marks ws
marks_put i v [] = refl
marks_put i v (w ∷ ws) = go (nat_eq i (length ws)) (marks_put i v ws)
  where
    go : (b : Bool) → marks (put_at i v ws) ≡ marks ws → marks (cond b (revalued v w ∷ ws) (w ∷ put_at i v ws)) ≡ marks (w ∷ ws)
    go true ih = marks_revalued v w ws
    go false ih = marks_over w (put_at i v ws) ws (put_length i v ws) ih

pub indexed_put : (i : ℕ) (v : Value) (xs : List Step) (ns : List Mark) (es : List (Loc × ℕ)) → IsIndexed xs ns es → IsIndexed (with_value_at i v xs) ns es
indexed_put i v xs ns es h = record {
  hidden = hidden_put i v xs h.hidden;
  saves = h.saves ∙ sym (ap marks (acts_put i v xs) ∙ marks_put i v (acts xs));
  index = λ l. h.index l ∙ sym (newest_same (spot_of l) i v xs);
}

-- ---- a new step

pub indexed_nothing : IsIndexed [] [] []
indexed_nothing = record { hidden = tt; saves = refl; index = λ l. refl }

pub indexed_fresh : (c : Cell) (sh : Shape) (xs : List Step) (ns : List Mark) (es : List (Loc × ℕ)) → IsIndexed xs ns es → IsIndexed (record { note = Fresh c sh; under = None } ∷ xs) ns es
indexed_fresh c sh xs ns es h = record { hidden = (refl, h.hidden); saves = h.saves; index = h.index }

pub indexed_save : (s : SaveName) (xs : List Step) (ns : List Mark) (es : List (Loc × ℕ)) → IsIndexed xs ns es → IsIndexed (record { note = Save s; under = None } ∷ xs) (record { name = s; until = suc (length xs) } ∷ ns) es
indexed_save s xs ns es h = record { hidden = (refl, h.hidden); saves = λ i. record { name = s; until = suc (sym (acts_length xs) i) } ∷ h.saves i; index = h.index }

pub indexed_store : (k : Loc) (v : Value) (u : Option ℕ) (xs : List Step) (ns : List Mark) (es fs : List (Loc × ℕ)) → IsIndexed xs ns es → u ≡ newest (spot_of k) (acts xs)
    → ((l : Loc) → lookup (is_at (loc_cmp l)) fs ≡ cond (is_at (loc_cmp k) l) (Some (length xs)) (lookup (is_at (loc_cmp l)) es))
    → IsIndexed (record { note = Put k v; under = u } ∷ xs) ns fs
indexed_store k v u xs ns es fs h e w = record {
  hidden = (e, h.hidden);
  saves = h.saves;
  index = λ l.
      w l ∙ ap (λ b. cond b (Some (length xs)) (lookup (is_at (loc_cmp l)) es)) ((eq_by_cmp_equiv locs_total).symm k l ∙ place_same k l)
      ∙ (λ i. cond (same_spot (spot_of k) (spot_of l)) (Some (sym (acts_length xs) i)) (h.index l i));
}

-- ---- a step taken away

pub indexed_less : (x : Step) (xs : List Step) (ns : List Mark) (es : List (Loc × ℕ)) → IsIndexed (x ∷ xs) ns es → TellHidden xs
indexed_less x xs ns es h = h.hidden.1

-- ---- where the newest save stands

pub saved_marks : (ws : List Action) → saved ws ≡ until_in (slice_get (marks ws) 0)
saved_marks [] = refl
saved_marks (save s ∷ ws) = refl
saved_marks (store l v ∷ ws) = saved_marks ws
saved_marks (fresh c sh ∷ ws) = saved_marks ws
saved_marks (restore s ∷ ws) = saved_marks ws
saved_marks (tell o ∷ ws) = saved_marks ws

-- a save that the writes open is one of the marks
pub marked : (s : SaveName) (ws : List Action) → is_open s ws ≡ is_marked s (marks ws)
marked s [] = refl
marked s (save r ∷ ws) = ap (cond (same_save s r) true) (marked s ws)
marked s (store l v ∷ ws) = marked s ws
marked s (fresh c sh ∷ ws) = marked s ws
marked s (restore r ∷ ws) = marked s ws
marked s (tell o ∷ ws) = marked s ws

-- ---- the same, as the code has them

pub indexed_after_put : (i : ℕ) (v : Value) (xs us : List Step) (ns : List Mark) (es : List (Loc × ℕ)) → us ≡ with_value_at i v xs → IsIndexed xs ns es → IsIndexed us ns es
indexed_after_put i v xs us ns es e h = subst (λ us. IsIndexed us ns es) (sym e) (indexed_put i v xs ns es h)

pub indexed_after_store : (k : Loc) (v : Value) (xs us : List Step) (ns : List Mark) (es fs : List (Loc × ℕ)) → us ≡ record { note = Put k v; under = lookup (is_at (loc_cmp k)) es } ∷ xs
    → ((l : Loc) → lookup (is_at (loc_cmp l)) fs ≡ cond (is_at (loc_cmp k) l) (Some (length xs)) (lookup (is_at (loc_cmp l)) es)) → IsIndexed xs ns es → IsIndexed us ns fs
indexed_after_store k v xs us ns es fs e w h = subst (λ us. IsIndexed us ns fs) (sym e) (indexed_store k v (lookup (is_at (loc_cmp k)) es) xs ns es fs h (h.index k) w)

pub stored_there : (l : Loc) (v : Value) (i : ℕ) (ws us : List Action) → newest (spot_of l) ws ≡ Some i → is_anew (spot_of l) i ws ≡ false → us ≡ put_at i v ws → us ≡ stored_over l v ws
stored_there l v i ws us n a e =
    e
    ∙ ap (λ b. elim (cond b None (Some (put_at i v ws))) as (λ _. List Action) [ None ↦ store l v ∷ ws | Some us ↦ us ]) (sym a)
    ∙ ap (λ o. elim (put_over (spot_of l) o v ws) as (λ _. List Action) [ None ↦ store l v ∷ ws | Some us ↦ us ]) (sym n)

-- ---- the cells that were made

made_revalued : (c : Cell) (v : Value) (w : Action) (ws : List Action) → made c (revalued v w ∷ ws) ≡ made c (w ∷ ws)
made_revalued c v (store l u) ws = refl
made_revalued c v (fresh d sh) ws = refl
made_revalued c v (save s) ws = refl
made_revalued c v (restore s) ws = refl
made_revalued c v (tell o) ws = refl

made_over : (c : Cell) (w : Action) (us ws : List Action) → made c us ≡ made c ws → made c (w ∷ us) ≡ made c (w ∷ ws)
made_over c (store l u) us ws e = e
made_over c (fresh d sh) us ws e = ap (cond (same_cell c d) (Some sh)) e
made_over c (save s) us ws e = e
made_over c (restore s) us ws e = e
made_over c (tell o) us ws e = e

made_put : (c : Cell) (i : ℕ) (v : Value) (ws : List Action) → made c (put_at i v ws) ≡ made c ws
made_put c i v [] = refl
made_put c i v (w ∷ ws) = go (nat_eq i (length ws)) (made_put c i v ws)
  where
    go : (b : Bool) → made c (put_at i v ws) ≡ made c ws → made c (cond b (revalued v w ∷ ws) (w ∷ put_at i v ws)) ≡ made c (w ∷ ws)
    go true ih = made_revalued c v w ws
    go false ih = made_over c w (put_at i v ws) ws ih

pub steps_nothing : IsSteps [] [] [] []
steps_nothing = record { indexed = indexed_nothing; made = λ c. refl }

pub steps_put : (i : ℕ) (v : Value) (xs us : List Step) (ns : List Mark) (es : List (Loc × ℕ)) (cs : List (Cell × Shape)) → us ≡ with_value_at i v xs → IsSteps xs ns es cs → IsSteps us ns es cs
steps_put i v xs us ns es cs e h = record {
  indexed = indexed_after_put i v xs us ns es e h.indexed;
  made = λ c. h.made c ∙ sym (ap (λ ys. made c (acts ys)) e ∙ ap (made c) (acts_put i v xs) ∙ made_put c i v (acts xs));
}

pub steps_store : (k : Loc) (v : Value) (xs us : List Step) (ns : List Mark) (es fs : List (Loc × ℕ)) (cs : List (Cell × Shape)) → us ≡ record { note = Put k v; under = lookup (is_at (loc_cmp k)) es } ∷ xs
    → ((l : Loc) → lookup (is_at (loc_cmp l)) fs ≡ cond (is_at (loc_cmp k) l) (Some (length xs)) (lookup (is_at (loc_cmp l)) es)) → IsSteps xs ns es cs → IsSteps us ns fs cs
steps_store k v xs us ns es fs cs e w h = record {
  indexed = indexed_after_store k v xs us ns es fs e w h.indexed;
  made = λ c. h.made c ∙ sym (ap (λ ys. made c (acts ys)) e);
}

pub steps_fresh : (d : Cell) (sh : Shape) (xs us : List Step) (ns : List Mark) (es : List (Loc × ℕ)) (cs ds : List (Cell × Shape)) → us ≡ record { note = Fresh d sh; under = None } ∷ xs
    → ((c : Cell) → lookup (is_at (cell_cmp c)) ds ≡ cond (is_at (cell_cmp d) c) (Some sh) (lookup (is_at (cell_cmp c)) cs)) → IsSteps xs ns es cs → IsSteps us ns es ds
steps_fresh d sh xs us ns es cs ds e w h = subst (λ us. IsSteps us ns es ds) (sym e) (record {
  indexed = indexed_fresh d sh xs ns es h.indexed;
  made = λ c. w c ∙ ap (λ b. cond b (Some sh) (lookup (is_at (cell_cmp c)) cs)) ((eq_by_cmp_equiv cells_total).symm d c) ∙ ap (cond (same_cell c d) (Some sh)) (h.made c);
})

pub steps_save : (s : SaveName) (xs us : List Step) (ns ms : List Mark) (es : List (Loc × ℕ)) (cs : List (Cell × Shape)) → us ≡ record { note = Save s; under = None } ∷ xs → ms ≡ record { name = s; until = length xs + 1 } ∷ ns → IsSteps xs ns es cs → IsSteps us ms es cs
steps_save s xs us ns ms es cs e m h = subst (λ us. IsSteps us ms es cs) (sym e) (subst (λ ms. IsSteps (record { note = Save s; under = None } ∷ xs) ms es cs) (sym (m ∙ ap (λ n. record { name = s; until = n } ∷ ns) one)) (record {
  indexed = indexed_save s xs ns es h.indexed;
  made = h.made;
}))
  where
    one : length xs + 1 ≡ suc (length xs)
    one = omega arith
