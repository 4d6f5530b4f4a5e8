-- Which places a trail owns, where it looked while it didn't own, and its first restore of a save that it didn't make.
use Rattle.std.specs.Prelude.{Bool, true, false, cond, ◌||◌, ◌&&◌, not, List, [], ◌∷◌, Option, Some, None, nat_eq}
use Rattle.std.specs.Ordering.{eq_by_cmp}
use Rattle.ps_objects.specs.declared.cell.Cell.{Cell}
use Rattle.ps_objects.specs.declared.cell.SaveName.{SaveName}
use Rattle.ps_objects.specs.declared.place.Loc.{Loc}
use Rattle.ps_memory.specs.Order.{cell_cmp, key_cmp}
use Rattle.ps_memory.specs.Memory.{is_global, newer, same_save, Slot, entry, access, item, whole, Spot, held, byte, rand, paper, spot_of, Action, store, fresh, save, restore, tell}
use Rattle.ps_memory.specs.Tree.{Step, looked_at, did}

-- the two cells are one
abbrev pub same_cell : Cell → Cell → Bool
same_cell = eq_by_cmp cell_cmp

-- the two slots are one
abbrev pub same_slot : Slot → Slot → Bool
same_slot (entry a) (entry b) = eq_by_cmp key_cmp b a
same_slot access access = true
same_slot (item a) (item b) = nat_eq a b
same_slot whole whole = true
same_slot _ _ = false

-- the two spots are one
abbrev pub same_spot : Spot → Spot → Bool
same_spot (held c s) (held d t) = same_cell d c && same_slot s t
same_spot (byte c i) (byte d j) = same_cell d c && nat_eq i j
same_spot rand rand = true
same_spot paper paper = true
same_spot _ _ = false

-- the spot is one of the cell
abbrev pub in_cell : Cell → Spot → Bool
in_cell c (held d t) = same_cell d c
in_cell c (byte d i) = same_cell d c
in_cell c rand = false
in_cell c paper = false

-- what a save keeps and a restore gives back: local places, but no bytes of strings
abbrev pub is_kept : Spot → Bool
is_kept (held c t) = not (is_global c)
is_kept (byte c i) = false
is_kept rand = false
is_kept paper = false

-- what outlives the restore of an older save: what is global, bytes of older strings, the random state and the paper
abbrev pub outlives : SaveName → Spot → Bool
outlives s (held c t) = is_global c
outlives s (byte c i) = not (newer c s)
outlives s rand = true
outlives s paper = true

-- the places that are owned now, and those that were owned at each save that the trail made
pub record Owned : Type 0 where
  pub now : Spot → Bool
  pub saves : List (SaveName × (Spot → Bool))

-- a trail that has done nothing owns nothing
abbrev pub nothing_owned : Owned
nothing_owned = record { now = λ p. false; saves = [] }

-- what was owned at the save of this name; where the trail made none, nothing
abbrev pub owned_at : SaveName → List (SaveName × (Spot → Bool)) → Spot → Bool
owned_at s [] p = false
owned_at s (k ∷ saves) p = cond (same_save s k.0) (k.1 p) (owned_at s saves p)

-- the saves that were made before the one of this name
abbrev pub saves_before : SaveName → List (SaveName × (Spot → Bool)) → List (SaveName × (Spot → Bool))
saves_before s [] = []
saves_before s (k ∷ saves) = cond (same_save s k.0) saves (saves_before s saves)

-- the trail made a save of this name, which is open
abbrev pub has_save : SaveName → List (SaveName × (Spot → Bool)) → Bool
has_save s [] = false
has_save s (k ∷ saves) = cond (same_save s k.0) true (has_save s saves)

-- A store owns its place, and a new cell all its places. A restore gives back the ownership of what doesn't outlive it.
abbrev pub own : Action → Owned → Owned
own (store l v) o = record { now = λ q. same_spot (spot_of l) q || o.now q; saves = o.saves }
own (fresh c sh) o = record { now = λ q. in_cell c q || o.now q; saves = o.saves }
own (save s) o = record { now = o.now; saves = (s, o.now) ∷ o.saves }
own (restore s) o = record { now = λ q. cond (outlives s q) (o.now q) (owned_at s o.saves q); saves = saves_before s o.saves }
own (tell x) o = o

-- the keys of a dictionary are owned where the trail made it: no store owns them
abbrev pub owns : Owned → Loc → Bool
owns o l = o.now (spot_of l)

-- the save that the first outer restore of a trail names
abbrev pub outer_from : Owned → List Step → Option SaveName
outer_from o [] = None
outer_from o (looked_at l ∷ steps) = outer_from o steps
outer_from o (did (restore s) ∷ steps) = cond (has_save s o.saves) (outer_from (own (restore s) o) steps) (Some s)
outer_from o (did w ∷ steps) = outer_from (own w o) steps

-- the save that the first outer restore of a whole trail names, if it has one
abbrev pub outer : List Step → Option SaveName
outer = outer_from nothing_owned

-- the two places are one
abbrev pub same_loc : Loc → Loc → Bool
same_loc k l = same_spot (spot_of k) (spot_of l)

-- the place is one of those
abbrev pub is_among : Loc → List Loc → Bool
is_among l [] = false
is_among l (k ∷ ks) = same_loc l k || is_among l ks

-- the places looked at while they weren't owned, each once, in the order of their first look
abbrev pub looked_from : Owned → List Loc → List Step → List Loc
looked_from o seen [] = []
looked_from o seen (looked_at l ∷ steps) = cond (owns o l || is_among l seen) (looked_from o seen steps) (l ∷ looked_from o (l ∷ seen) steps)
looked_from o seen (did w ∷ steps) = looked_from (own w o) seen steps

-- the same of a whole trail
abbrev pub looked : List Step → List Loc
looked = looked_from nothing_owned []
