-- Reads and their index, as they change.
use Rattle.std.proofs.Common.{◌≡◌, ℕ, suc, Bool, true, false, cond, ◌||◌, List, [], ◌∷◌, ◌++◌, Option, Some, None, option_map, refl, sym, ap, ◌∙◌, subst, is_some, length, slice_get, true≢false}
use Rattle.std.specs.Map.{lookup}
use Rattle.std.specs.BTreeMap.{is_at}
use Rattle.std.specs.Cmp.{eq_by_cmp_equiv}
use Rattle.ps_objects.specs.declared.place.Loc.{Loc}
use Rattle.ps_objects.specs.declared.place.Value.{Value}
use Rattle.ps_memory.specs.Memory.{Spot, spot_of}
use Rattle.ps_memory.specs.Ownership.{same_loc, same_spot, is_among}
use Rattle.ps_memory.proofs.Places.{spot_is}
use Rattle.ps_memory.proofs.Track.{in_end}
use Rattle.ps_memory.proofs.Seen.{spot_itself}
use Rattle.access_log.specs.declared.log.Read.{Read}
use Rattle.access_log.specs.Reads.{places, noted_at, IsOnce, place_in, value_in, TellsPlaces}
use Rattle.access_log.specs.Order.{loc_cmp}
use Rattle.access_log.proofs.Order.{locs_total, place_same}

some_mapped : {X Y : Type 0} (f : X → Y) (o : Option X) → is_some (option_map f o) ≡ is_some o
some_mapped f None = refl
some_mapped f (Some x) = refl

among_placed : (l : Loc) (rs : List Read) → is_some (place_in l rs) ≡ is_among l (places rs)
among_placed l [] = refl
among_placed l (r ∷ rs) = go (same_loc l r.at) (among_placed l rs)
  where
    go : (b : Bool) → is_some (place_in l rs) ≡ is_among l (places rs) → is_some (cond b (Some 0) (option_map suc (place_in l rs))) ≡ (b || is_among l (places rs))
    go true ih = refl
    go false ih = some_mapped suc (place_in l rs) ∙ ih

-- a place is among those of the log where the index has it
pub among : (l : Loc) (rs : List Read) (es : List (Loc × ℕ)) → TellsPlaces rs es → is_some (lookup (is_at (loc_cmp l)) es) ≡ is_among l (places rs)
among l rs es h = ap is_some (h l) ∙ among_placed l rs

pub noted : (l : Loc) (rs : List Read) (o : Option ℕ) → place_in l rs ≡ o → noted_at l rs ≡ elim o as (λ _. Option Value) [ None ↦ None | Some i ↦ value_in (slice_get rs i) ]
noted l [] None e = refl
noted l [] (Some i) e = cc
noted l (r ∷ rs) o e = go (same_loc l r.at) o e (noted l rs (place_in l rs) refl)
  where
    go : (b : Bool) (o : Option ℕ) → cond b (Some 0) (option_map suc (place_in l rs)) ≡ o
        → noted_at l rs ≡ elim (place_in l rs) as (λ _. Option Value) [ None ↦ None | Some i ↦ value_in (slice_get rs i) ]
        → cond b (Some r.value) (noted_at l rs) ≡ elim o as (λ _. Option Value) [ None ↦ None | Some i ↦ value_in (slice_get (r ∷ rs) i) ]
    go true o e ih = ap (λ o. elim o as (λ _. Option Value) [ None ↦ None | Some i ↦ value_in (slice_get (r ∷ rs) i) ]) e
    go false o e ih = ih ∙ below (place_in l rs) ∙ ap (λ o. elim o as (λ _. Option Value) [ None ↦ None | Some i ↦ value_in (slice_get (r ∷ rs) i) ]) e
      where
        below : (p : Option ℕ) → elim p as (λ _. Option Value) [ None ↦ None | Some i ↦ value_in (slice_get rs i) ] ≡ elim (option_map suc p) as (λ _. Option Value) [ None ↦ None | Some i ↦ value_in (slice_get (r ∷ rs) i) ]
        below None = refl
        below (Some i) = refl

-- ---- one read more

none_placed : (l : Loc) (rs : List Read) (o : Option ℕ) → place_in l rs ≡ o → is_among l (places rs) ≡ false → place_in l rs ≡ None
none_placed l rs None e h = e
none_placed l rs (Some i) e h = absurd (true≢false (sym (ap is_some e) ∙ among_placed l rs ∙ h))

placed_end : (l : Loc) (rs : List Read) (r : Read) → place_in l (rs ++ r ∷ []) ≡ elim (place_in l rs) as (λ _. Option ℕ) [ None ↦ cond (same_loc l r.at) (Some (length rs)) None | Some i ↦ Some i ]
placed_end l [] r = refl
placed_end l (x ∷ rs) r = go (same_loc l x.at) (placed_end l rs r)
  where
    below : (o : Option ℕ) → option_map suc (elim o as (λ _. Option ℕ) [ None ↦ cond (same_loc l r.at) (Some (length rs)) None | Some i ↦ Some i ])
        ≡ elim (option_map suc o) as (λ _. Option ℕ) [ None ↦ cond (same_loc l r.at) (Some (suc (length rs))) None | Some i ↦ Some i ]
    below None = one (same_loc l r.at)
      where
        one : (b : Bool) → option_map suc (cond b (Some (length rs)) None) ≡ cond b (Some (suc (length rs))) None
        one true = refl
        one false = refl
    below (Some i) = refl

    go : (b : Bool) → place_in l (rs ++ r ∷ []) ≡ elim (place_in l rs) as (λ _. Option ℕ) [ None ↦ cond (same_loc l r.at) (Some (length rs)) None | Some i ↦ Some i ]
        → cond b (Some 0) (option_map suc (place_in l (rs ++ r ∷ []))) ≡ elim (cond b (Some 0) (option_map suc (place_in l rs))) as (λ _. Option ℕ) [ None ↦ cond (same_loc l r.at) (Some (suc (length rs))) None | Some i ↦ Some i ]
    go true ih = refl
    go false ih = ap (option_map suc) ih ∙ below (place_in l rs)

pub places_end : (rs : List Read) (r : Read) → places (rs ++ r ∷ []) ≡ places rs ++ r.at ∷ []
places_end [] r = refl
places_end (x ∷ rs) r = ap (λ ls. x.at ∷ ls) (places_end rs r)

among_same : (k l : Loc) (ls : List Loc) → spot_of k ≡ spot_of l → is_among k ls ≡ is_among l ls
among_same k l [] e = refl
among_same k l (x ∷ ls) e = λ i. same_spot (e i) (spot_of x) || among_same k l ls e i

told_end : (r : Read) (rs : List Read) (es fs : List (Loc × ℕ)) → is_among r.at (places rs) ≡ false
    → ((l : Loc) → lookup (is_at (loc_cmp l)) fs ≡ cond (is_at (loc_cmp r.at) l) (Some (length rs)) (lookup (is_at (loc_cmp l)) es)) → TellsPlaces rs es → TellsPlaces (rs ++ r ∷ []) fs
told_end r rs es fs n w h l =
    w l ∙ (λ i. cond (place_same l r.at i) (Some (length rs)) (h l i)) ∙ go (same_loc l r.at) refl ∙ sym (placed_end l rs r)
  where
    alike : same_loc l r.at ≡ true → is_among l (places rs) ≡ false
    alike e = among_same l r.at (places rs) (spot_is (spot_of l) (spot_of r.at) e) ∙ n

    go : (b : Bool) → same_loc l r.at ≡ b → cond b (Some (length rs)) (place_in l rs) ≡ elim (place_in l rs) as (λ _. Option ℕ) [ None ↦ cond (same_loc l r.at) (Some (length rs)) None | Some i ↦ Some i ]
    go true e = sym (ap (λ o. elim o as (λ _. Option ℕ) [ None ↦ cond (same_loc l r.at) (Some (length rs)) None | Some i ↦ Some i ]) (none_placed l rs (place_in l rs) refl (alike e)) ∙ ap (λ b. cond b (Some (length rs)) None) e)
    go false e = sym (stays (place_in l rs))
      where
        stays : (o : Option ℕ) → elim o as (λ _. Option ℕ) [ None ↦ cond (same_loc l r.at) (Some (length rs)) None | Some i ↦ Some i ] ≡ o
        stays None = ap (λ b. cond b (Some (length rs)) None) e
        stays (Some i) = refl

swapped : (k l : Loc) → same_loc k l ≡ false → same_loc l k ≡ false
swapped k l h = go (same_loc l k) refl
  where
    go : (b : Bool) → same_loc l k ≡ b → b ≡ false
    go true e = absurd (true≢false (sym (spot_itself (spot_of k)) ∙ ap (same_spot (spot_of k)) (sym (spot_is (spot_of l) (spot_of k) e)) ∙ h))
    go false e = refl

first_false : (a b : Bool) → (a || b) ≡ false → a ≡ false
first_false true b h = h
first_false false b h = refl

second_false : (a b : Bool) → (a || b) ≡ false → b ≡ false
second_false true b h = absurd (true≢false h)
second_false false b h = h

once_end : (k : Loc) (ls : List Loc) → is_among k ls ≡ false → IsOnce ls → IsOnce (ls ++ k ∷ [])
once_end k [] n h = (refl, tt)
once_end k (l ∷ ls) n h = (
  in_end l k ls ∙ ap (λ b. b || is_among l ls) (swapped k l (first_false (same_loc k l) (is_among k ls) n)) ∙ h.0,
  once_end k ls (second_false (same_loc k l) (is_among k ls) n) h.1,
)

-- the log with a place that wasn't there
pub noted_once : (r : Read) (rs us : List Read) (es fs : List (Loc × ℕ)) → is_among r.at (places rs) ≡ false → us ≡ rs ++ r ∷ []
    → ((l : Loc) → lookup (is_at (loc_cmp l)) fs ≡ cond (is_at (loc_cmp r.at) l) (Some (length rs)) (lookup (is_at (loc_cmp l)) es))
    → TellsPlaces rs es × IsOnce (places rs) → TellsPlaces us fs × IsOnce (places us)
noted_once r rs us es fs n e w h = subst (λ us. TellsPlaces us fs × IsOnce (places us)) (sym e) (told_end r rs es fs n w h.0, subst IsOnce (sym (places_end rs r)) (once_end r.at (places rs) n h.1))
