-- Paper that is laid where other paper was taken out is noted as a store over it.
use Rattle.std.proofs.Common.{◌≡◌, Bool, true, false, cond, List, [], ◌∷◌, Option, Some, None, option_map, is_some, true≢false, refl, sym, ap, ◌∙◌}
use Rattle.std.specs.Bool.{⊤}
use Rattle.ps_objects.specs.declared.place.Loc.{Loc}
use Rattle.ps_objects.specs.declared.place.Loc.TheVariants as loc
use Rattle.ps_objects.specs.declared.place.Value.{Value}
use Rattle.ps_objects.specs.declared.place.Value.TheVariants as value
use Rattle.ps_memory.specs.Memory.{spot_of, blank, Action, store, fresh, save, restore, tell}
use Rattle.ps_memory.specs.Ownership.{same_spot, in_cell, outlives}
use Rattle.ps_memory.specs.Writes.{store_replaced, with_empty_paper, note}
use Rattle.ps_memory.specs.Track.{Track, saw, track_acted, paper_lifted}

abbrev Twice : Loc → Value → List Action → Option (List Action) → Type 0
Twice l v ws None = ⊤
Twice l v ws (Some us) = store_replaced l v us ≡ store_replaced l v ws

-- a store over a store over another is a store over that one
twice : (l : Loc) (v w : Value) (ws : List Action) → Twice l v ws (store_replaced l w ws)
twice l v w [] = tt
twice l v w (store k u ∷ ws) = go (same_spot (spot_of k) (spot_of l)) refl (twice l v w ws)
  where
    passed : same_spot (spot_of k) (spot_of l) ≡ false → (o : Option (List Action)) → Twice l v ws o → Twice l v (store k u ∷ ws) (option_map (λ us. store k u ∷ us) o)
    passed e None h = tt
    passed e (Some us) h = ap (λ o. cond (same_spot (spot_of k) (spot_of l)) (Some (store k v ∷ us)) (option_map (λ us. store k u ∷ us) o)) h
        ∙ ap (λ b. cond b (Some (store k v ∷ us)) (option_map (λ us. store k u ∷ us) (store_replaced l v ws))) e
        ∙ sym (ap (λ b. cond b (Some (store k v ∷ ws)) (option_map (λ us. store k u ∷ us) (store_replaced l v ws))) e)

    go : (b : Bool) → same_spot (spot_of k) (spot_of l) ≡ b → Twice l v ws (store_replaced l w ws) → Twice l v (store k u ∷ ws) (cond b (Some (store k w ∷ ws)) (option_map (λ us. store k u ∷ us) (store_replaced l w ws)))
    go true e h = ap (λ b. cond b (Some (store k v ∷ ws)) (option_map (λ us. store k w ∷ us) (store_replaced l v ws))) e ∙ sym (ap (λ b. cond b (Some (store k v ∷ ws)) (option_map (λ us. store k u ∷ us) (store_replaced l v ws))) e)
    go false e h = passed e (store_replaced l w ws) h
twice l v w (fresh c sh ∷ ws) = go (in_cell c (spot_of l)) refl (twice l v w ws)
  where
    passed : (o : Option (List Action)) → Twice l v ws o → Twice l v (fresh c sh ∷ ws) (option_map (λ us. fresh c sh ∷ us) o)
    passed None h = tt
    passed (Some us) h = ap (λ o. cond (in_cell c (spot_of l)) None (option_map (λ us. fresh c sh ∷ us) o)) h

    go : (b : Bool) → in_cell c (spot_of l) ≡ b → Twice l v ws (store_replaced l w ws) → Twice l v (fresh c sh ∷ ws) (cond b None (option_map (λ us. fresh c sh ∷ us) (store_replaced l w ws)))
    go true e h = tt
    go false e h = passed (store_replaced l w ws) h
twice l v w (save s ∷ ws) = go (outlives s (spot_of l)) (twice l v w ws)
  where
    passed : (o : Option (List Action)) → Twice l v ws o → Twice l v (save s ∷ ws) (option_map (λ us. save s ∷ us) o)
    passed None h = tt
    passed (Some us) h = ap (λ o. cond (outlives s (spot_of l)) (option_map (λ us. save s ∷ us) o) None) h

    go : (b : Bool) → Twice l v ws (store_replaced l w ws) → Twice l v (save s ∷ ws) (cond b (option_map (λ us. save s ∷ us) (store_replaced l w ws)) None)
    go true h = passed (store_replaced l w ws) h
    go false h = tt
twice l v w (restore s ∷ ws) = tt
twice l v w (tell x ∷ ws) = tt

-- whether a store is found doesn't depend on its value
some_mapped : {X Y : Type 0} (f : X → Y) (o : Option X) → is_some (option_map f o) ≡ is_some o
some_mapped f None = refl
some_mapped f (Some x) = refl

same_found : (l : Loc) (v w : Value) (ws : List Action) → is_some (store_replaced l v ws) ≡ is_some (store_replaced l w ws)
same_found l v w [] = refl
same_found l v w (store k u ∷ ws) = go (same_spot (spot_of k) (spot_of l)) (same_found l v w ws)
  where
    go : (b : Bool) → is_some (store_replaced l v ws) ≡ is_some (store_replaced l w ws) → is_some (cond b (Some (store k v ∷ ws)) (option_map (λ us. store k u ∷ us) (store_replaced l v ws))) ≡ is_some (cond b (Some (store k w ∷ ws)) (option_map (λ us. store k u ∷ us) (store_replaced l w ws)))
    go true h = refl
    go false h = some_mapped (λ us. store k u ∷ us) (store_replaced l v ws) ∙ h ∙ sym (some_mapped (λ us. store k u ∷ us) (store_replaced l w ws))
same_found l v w (fresh c sh ∷ ws) = go (in_cell c (spot_of l)) (same_found l v w ws)
  where
    go : (b : Bool) → is_some (store_replaced l v ws) ≡ is_some (store_replaced l w ws) → is_some (cond b None (option_map (λ us. fresh c sh ∷ us) (store_replaced l v ws))) ≡ is_some (cond b None (option_map (λ us. fresh c sh ∷ us) (store_replaced l w ws)))
    go true h = refl
    go false h = some_mapped (λ us. fresh c sh ∷ us) (store_replaced l v ws) ∙ h ∙ sym (some_mapped (λ us. fresh c sh ∷ us) (store_replaced l w ws))
same_found l v w (save s ∷ ws) = go (outlives s (spot_of l)) (same_found l v w ws)
  where
    go : (b : Bool) → is_some (store_replaced l v ws) ≡ is_some (store_replaced l w ws) → is_some (cond b (option_map (λ us. save s ∷ us) (store_replaced l v ws)) None) ≡ is_some (cond b (option_map (λ us. save s ∷ us) (store_replaced l w ws)) None)
    go true h = some_mapped (λ us. save s ∷ us) (store_replaced l v ws) ∙ h ∙ sym (some_mapped (λ us. save s ∷ us) (store_replaced l w ws))
    go false h = refl
same_found l v w (restore s ∷ ws) = refl
same_found l v w (tell x ∷ ws) = refl

pub laid_over_empty : (v : Value) (ws : List Action) → note (store loc.Paper v) (with_empty_paper ws) ≡ note (store loc.Paper v) ws
laid_over_empty v ws = go (store_replaced loc.Paper (value.Paper (blank 0 0)) ws) refl (twice loc.Paper v (value.Paper (blank 0 0)) ws)
  where
    both : List Action → Option (List Action) → List Action
    both ws o = elim o as (λ _. List Action) [ None ↦ store loc.Paper v ∷ ws | Some us ↦ us ]

    go : (o : Option (List Action)) → store_replaced loc.Paper (value.Paper (blank 0 0)) ws ≡ o → Twice loc.Paper v ws o → note (store loc.Paper v) (elim o as (λ _. List Action) [ None ↦ ws | Some us ↦ us ]) ≡ note (store loc.Paper v) ws
    go None e h = refl
    go (Some us) e h = found (store_replaced loc.Paper v ws) refl
      where
        found : (o : Option (List Action)) → store_replaced loc.Paper v ws ≡ o → note (store loc.Paper v) us ≡ note (store loc.Paper v) ws
        found None x = absurd (true≢false (sym (ap is_some e) ∙ sym (same_found loc.Paper v (value.Paper (blank 0 0)) ws) ∙ ap is_some x))
        found (Some y) x = ap (both us) (h ∙ x) ∙ sym (ap (both ws) x)

abbrev written_as : Track → List Action → Track
written_as k ws = record { owned = k.owned; seen = k.seen; written = ws }

-- what is known of a run that lifts paper and lays it is as if it had looked at it and stored it
pub lifted_and_laid : (v : Value) (k : Track) → track_acted (store loc.Paper v) (paper_lifted k) ≡ track_acted (store loc.Paper v) (saw loc.Paper k)
lifted_and_laid v k = ap (written_as (track_acted (store loc.Paper v) (saw loc.Paper k))) (laid_over_empty v k.written)
