-- What was looked at, in the order of first look.
use Rattle.std.specs.Prelude.{◌≡◌, ℕ, suc, false, cond, List, [], ◌∷◌, map, Option, Some, None, option_map, ⊤}
use Rattle.std.specs.Map.{lookup}
use Rattle.std.specs.BTreeMap.{is_at}
use Rattle.ps_objects.specs.declared.place.Loc.{Loc}
use Rattle.ps_objects.specs.declared.place.Value.{Value}
use Rattle.ps_memory.specs.Ownership.{same_loc, is_among}
use Rattle.access_log.specs.declared.log.Read.{Read}
use Rattle.access_log.specs.Order.{loc_cmp}

-- the places that were looked at
abbrev pub places : List Read → List Loc
places = map (λ r. r.at)

-- the value that was noted at a place, if it was looked at
abbrev pub noted_at : Loc → List Read → Option Value
noted_at l [] = None
noted_at l (r ∷ rs) = cond (same_loc l r.at) (Some r.value) (noted_at l rs)

-- each place stands there once
abbrev pub IsOnce : List Loc → Type 0
IsOnce [] = ⊤
IsOnce (l ∷ ls) = (is_among l ls ≡ false) × IsOnce ls

-- where in the list a place stands
abbrev pub place_in : Loc → List Read → Option ℕ
place_in l [] = None
place_in l (r ∷ rs) = cond (same_loc l r.at) (Some 0) (option_map suc (place_in l rs))

-- the index tells where each place stands
abbrev pub TellsPlaces : List Read → List (Loc × ℕ) → Type 0
TellsPlaces rs es = (l : Loc) → lookup (is_at (loc_cmp l)) es ≡ place_in l rs

-- reads of different places, with the index of where each stands
abbrev pub AreIndexed : List Read → List (Loc × ℕ) → Type 0
AreIndexed rs es = TellsPlaces rs es × IsOnce (places rs)

-- the value of a read, if there is one
abbrev pub value_in : Option Read → Option Value
value_in None = None
value_in (Some r) = Some r.value
