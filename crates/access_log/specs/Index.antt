-- An index of places, as it changes.
use Rattle.std.specs.Prelude.{◌≡◌, ℕ, cond, List, Option}
use Rattle.std.specs.Map.{lookup}
use Rattle.std.specs.BTreeMap.{is_at}
use Rattle.ps_objects.specs.declared.place.Loc.{Loc}
use Rattle.access_log.specs.Order.{loc_cmp}

-- the number that an index tells of a place
abbrev pub told_of : Loc → List (Loc × ℕ) → Option ℕ
told_of l es = lookup (is_at (loc_cmp l)) es

-- the new index tells this of one place, and of any other what the old one tells
abbrev pub TellsAnew : Loc → Option ℕ → List (Loc × ℕ) → List (Loc × ℕ) → Type 0
TellsAnew k n old new = (l : Loc) → told_of l new ≡ cond (is_at (loc_cmp k) l) n (told_of l old)
