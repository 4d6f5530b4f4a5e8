-- A step taken away.
use Rattle.std.proofs.Common.{◌≡◌, ℕ, suc, Bool, true, false, cond, List, [], ◌∷◌, Option, Some, None, refl, sym, ap, ◌∙◌, subst, true≢false, length, drop}
use Rattle.std.specs.Map.{lookup}
use Rattle.std.specs.BTreeMap.{is_at}
use Rattle.std.specs.Cmp.{eq_by_cmp_equiv, tied_itself}
use Rattle.std.specs.Ordering.{is_eq}
use Rattle.std.specs.Option.{IsSome}
use Rattle.ps_objects.specs.declared.cell.Cell.{Cell}
use Rattle.ps_objects.specs.declared.cell.SaveName.{SaveName}
use Rattle.ps_objects.specs.declared.place.Loc.{Loc}
use Rattle.ps_objects.specs.declared.place.Shape.{Shape}
use Rattle.ps_objects.specs.declared.place.Value.{Value}
use Rattle.ps_memory.specs.Order.{cell_cmp}
use Rattle.ps_memory.specs.Memory.{Memory, held, whole, shape_in, shape_at, spot_of, Action, store, fresh, save, restore, tell}
use Rattle.ps_memory.specs.Ownership.{same_cell, same_spot}
use Rattle.ps_memory.specs.Writes.{apply, Applicable}
use Rattle.ps_memory.proofs.Order.{cells_total, cell_is}
use Rattle.ps_memory.proofs.Places.{spot_is, store_other, fresh_other}
use Rattle.ps_memory.proofs.Stored.{no_shape}
use Rattle.overlay_steps.specs.Newest.{newest, made, MadeOnce}
use Rattle.overlay_steps.specs.declared.pile.Note.{Note}
use Rattle.overlay_steps.specs.declared.pile.Note.TheVariants.{Fresh, Put, Save}
use Rattle.overlay_steps.specs.declared.pile.Step.{Step}
use Rattle.overlay_steps.specs.declared.pile.Mark.{Mark}
use Rattle.overlay_steps.specs.Pile.{action_of, acts}
use Rattle.access_log.specs.Order.{loc_cmp}
use Rattle.overlay_steps.specs.Steps.{marks, IsSteps, saves_less, index_less, made_less, IsThere}
use Rattle.overlay_steps.proofs.Newest.{fresh_new, shape_stands}
use Rattle.access_log.proofs.Order.{locs_total, place_same}

some_apart : {X : Type 0} (x : X) → Some x ≡ None → ⊥
some_apart x e = cc

-- a cell that was made stands
made_stands : (c : Cell) (ws : List Action) (N : Memory) (sh : Shape) → Applicable ws N → made c ws ≡ Some sh → shape_at (apply ws N) c ≡ None → ⊥
made_stands c [] N sh f e n = cc
made_stands c (store k v ∷ ws) N sh f e n = made_stands c ws N sh f.2 e (sym (ap shape_in (store_other (spot_of k) (held c whole) v (apply ws N) (no_shape (spot_of k) (apply ws N) c f.1.0))) ∙ n)
made_stands c (fresh d s ∷ ws) N sh f e n = go (same_cell c d) refl e (made_stands c ws N sh f.2)
  where
    go : (b : Bool) → same_cell c d ≡ b → cond b (Some s) (made c ws) ≡ Some sh → (made c ws ≡ Some sh → shape_at (apply ws N) c ≡ None → ⊥) → ⊥
    go true i e ih = shape_stands s (sym (ap shape_in (fresh_new d s (held c whole) (apply ws N) i)) ∙ n)
    go false i e ih = ih e (sym (ap shape_in (fresh_other d s (held c whole) (apply ws N) i)) ∙ n)
made_stands c (save s ∷ ws) N sh f e n = made_stands c ws N sh f.2 e n
made_stands c (restore s ∷ ws) N sh f e n = absurd (true≢false (sym f.0))
made_stands c (tell x ∷ ws) N sh f e n = absurd (true≢false (sym f.0))

pub made_once : (ws : List Action) (N : Memory) → Applicable ws N → MadeOnce ws
made_once [] N f = tt
made_once (store k v ∷ ws) N f = made_once ws N f.2
made_once (fresh c sh ∷ ws) N f = (go (made c ws) refl, made_once ws N f.2)
  where
    go : (o : Option Shape) → made c ws ≡ o → o ≡ None
    go None e = refl
    go (Some s) e = absurd (made_stands c ws N s f.2 e (f.1.0 c refl refl))
made_once (save s ∷ ws) N f = made_once ws N f.2
made_once (restore s ∷ ws) N f = absurd (true≢false (sym f.0))
made_once (tell x ∷ ws) N f = absurd (true≢false (sym f.0))

pub taken_put : (k : Loc) (v : Value) (u : Option ℕ) (xs : List Step) (ns : List Mark) (es fs : List (Loc × ℕ)) (cs : List (Cell × Shape)) → IsSteps (record { note = Put k v; under = u } ∷ xs) ns es cs
    → ((l : Loc) → lookup (is_at (loc_cmp l)) fs ≡ cond (is_at (loc_cmp k) l) u (lookup (is_at (loc_cmp l)) es)) → IsSteps xs ns fs cs
taken_put k v u xs ns es fs cs h w = record {
  indexed = record {
    hidden = h.indexed.hidden.1;
    saves = h.indexed.saves;
    index = λ l. w l ∙ ap (λ b. cond b u (lookup (is_at (loc_cmp l)) es)) ((eq_by_cmp_equiv locs_total).symm k l ∙ place_same k l) ∙ go l (same_spot (spot_of k) (spot_of l)) refl (h.indexed.index l);
  };
  made = h.made;
}
  where
    go : (l : Loc) (b : Bool) → same_spot (spot_of k) (spot_of l) ≡ b → lookup (is_at (loc_cmp l)) es ≡ cond (same_spot (spot_of k) (spot_of l)) (Some (length (acts xs))) (newest (spot_of l) (acts xs))
        → cond b u (lookup (is_at (loc_cmp l)) es) ≡ newest (spot_of l) (acts xs)
    go l true i e = h.indexed.hidden.0 ∙ ap (λ p. newest p (acts xs)) (spot_is (spot_of k) (spot_of l) i)
    go l false i e = e ∙ ap (λ b. cond b (Some (length (acts xs))) (newest (spot_of l) (acts xs))) i

pub taken_fresh : (c : Cell) (sh : Shape) (u : Option ℕ) (xs : List Step) (ns : List Mark) (es : List (Loc × ℕ)) (cs ds : List (Cell × Shape)) → IsSteps (record { note = Fresh c sh; under = u } ∷ xs) ns es cs → made c (acts xs) ≡ None
    → ((d : Cell) → lookup (is_at (cell_cmp d)) ds ≡ cond (is_at (cell_cmp c) d) None (lookup (is_at (cell_cmp d)) cs)) → IsSteps xs ns es ds
taken_fresh c sh u xs ns es cs ds h m w = record {
  indexed = record { hidden = h.indexed.hidden.1; saves = h.indexed.saves; index = h.indexed.index };
  made = λ d. w d ∙ ap (λ b. cond b None (lookup (is_at (cell_cmp d)) cs)) ((eq_by_cmp_equiv cells_total).symm c d) ∙ go d (same_cell d c) refl (h.made d);
}
  where
    go : (d : Cell) (b : Bool) → same_cell d c ≡ b → lookup (is_at (cell_cmp d)) cs ≡ cond (same_cell d c) (Some sh) (made d (acts xs)) → cond b None (lookup (is_at (cell_cmp d)) cs) ≡ made d (acts xs)
    go d true i e = sym (ap (λ d. made d (acts xs)) (cell_is d c i) ∙ m)
    go d false i e = e ∙ ap (λ b. cond b (Some sh) (made d (acts xs))) i

pub is_there : (x : Step) (xs : List Step) (ns : List Mark) (es : List (Loc × ℕ)) (cs : List (Cell × Shape)) → IsSteps (x ∷ xs) ns es cs → IsThere x.note es
is_there x xs ns es cs h = go x.note refl
  where
    go : (w : Note) → x.note ≡ w → IsThere w es
    go (Fresh c sh) e = tt
    go (Put k v) e = subst IsSome (sym (h.indexed.index k ∙ ap (λ w. newest (spot_of k) (action_of w ∷ acts xs)) e ∙ ap (λ b. cond b (Some (length (acts xs))) (newest (spot_of k) (acts xs))) (sym (place_same k k) ∙ ap is_eq (tied_itself locs_total k)))) refl
    go (Save s) e = tt

pub taken : (x : Step) (xs : List Step) (ns ms : List Mark) (es fs : List (Loc × ℕ)) (cs ds : List (Cell × Shape)) → IsSteps (x ∷ xs) ns es cs → MadeOnce (acts (x ∷ xs)) → ms ≡ saves_less x.note ns
    → ((l : Loc) → lookup (is_at (loc_cmp l)) fs ≡ index_less x.note x.under l (lookup (is_at (loc_cmp l)) es))
    → ((d : Cell) → lookup (is_at (cell_cmp d)) ds ≡ made_less x.note d (lookup (is_at (cell_cmp d)) cs)) → IsSteps xs ms fs ds
taken x xs ns ms es fs cs ds h o p q r = go x.note refl h o p q r
  where
    go : (w : Note) → x.note ≡ w → IsSteps (record { note = w; under = x.under } ∷ xs) ns es cs → MadeOnce (action_of w ∷ acts xs) → ms ≡ saves_less w ns
        → ((l : Loc) → lookup (is_at (loc_cmp l)) fs ≡ index_less w x.under l (lookup (is_at (loc_cmp l)) es))
        → ((d : Cell) → lookup (is_at (cell_cmp d)) ds ≡ made_less w d (lookup (is_at (cell_cmp d)) cs)) → IsSteps xs ms fs ds
    go (Put k v) e h o p q r = let t = taken_put k v x.under xs ns es fs cs h q in record {
      indexed = record { hidden = t.indexed.hidden; saves = p ∙ t.indexed.saves; index = t.indexed.index };
      made = λ d. r d ∙ t.made d;
    }
    go (Fresh c sh) e h o p q r = let t = taken_fresh c sh x.under xs ns es cs ds h o.0 r in record {
      indexed = record { hidden = t.indexed.hidden; saves = p ∙ t.indexed.saves; index = λ l. q l ∙ t.indexed.index l };
      made = t.made;
    }
    go (Save s) e h o p q r = record {
      indexed = record { hidden = h.indexed.hidden.1; saves = p ∙ ap (drop 1) h.indexed.saves; index = λ l. q l ∙ h.indexed.index l };
      made = λ d. r d ∙ h.made d;
    }
