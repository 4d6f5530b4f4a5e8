-- The frame law: what a run doesn't look at doesn't matter to it.
use Rattle.std.specs.Prelude.{◌≡◌, ◌≢◌, Bool, true, false, None, ⊤}
use Rattle.std.specs.Ordering.{nat_cmp, is_gt, ordering_then}
use Rattle.std.specs.FinMap.{get}
use Rattle.std.specs.List.{AllByRecursion}
use Rattle.ps_objects.specs.declared.cell.Cell.{Cell}
use Rattle.ps_objects.specs.declared.cell.SaveName.{SaveName}
use Rattle.ps_memory.specs.Memory.{is_global, newer, spot_of, Memory, value_at, shape_at, shape_of, is_place, is_kind, Action, store, fresh, save, restore, tell, copy_named, perform}
use Rattle.ps_memory.specs.Tree.{Tree, ends, looks, acts, asks, result, trail, after, play}
use Rattle.ps_memory.specs.Ownership.{looked, outer}

-- a save that was made later
abbrev pub later : SaveName → SaveName → Bool
later s r = is_gt (ordering_then (nat_cmp s.section r.section) (nat_cmp s.count r.count))

-- no cell has this section and count, in either space
abbrev pub IsUnused : Memory → Cell → Type 0
IsUnused M c = (d : Cell) → d.section ≡ c.section → d.count ≡ c.count → shape_at M d ≡ None

-- no local cell that is newer than the save stands, nor has bytes
abbrev pub IsNewest : Memory → SaveName → Type 0
IsNewest M s = (c : Cell) → newer c s ≡ true → (shape_at M c ≡ None) × (get M.strings c ≡ None)

-- An action's condition: a store has a place that is there and a value of its kind; a new cell's name is unused, and a
-- local one is newer than the open saves; a save is later than the open ones, and nothing newer stands; a restored save is open.
abbrev pub Allowed : Action → Memory → Type 0
Allowed (store l v) M = (is_place M (spot_of l) ≡ true) × (is_kind (spot_of l) v ≡ true)
Allowed (fresh c sh) M = IsUnused M c × (is_global c ≡ false → AllByRecursion (λ k. newer c k.0 ≡ true) M.kept)
Allowed (save s) M = IsNewest M s × AllByRecursion (λ k. later s k.0 ≡ true) M.kept
Allowed (restore s) M = copy_named s M.kept ≢ None
Allowed (tell o) M = ⊤

-- each action of the run is allowed where it is done, and each cell asked for stands
abbrev pub Safe : {A : Type 0} → Tree A → Memory → Type 0
Safe (ends a) M = ⊤
Safe (looks l f) M = Safe (f (value_at M l)) M
Safe (acts w t) M = Allowed w M × Safe t (perform w M)
Safe (asks c f) M = (shape_at M c ≢ None) × Safe (f (shape_of M c)) M

-- what stands in both has one shape
abbrev pub Kin : Memory → Memory → Type 0
Kin M N = (c : Cell) → shape_at M c ≢ None → shape_at N c ≢ None → shape_at M c ≡ shape_at N c

-- the same result and trail, so the same outputs, and each memory is the trail's actions done on it
pub record SameRun {A : Type 0} (t : Tree A) (M N : Memory) : Type 0 where
  pub same_result : result t N ≡ result t M
  pub same_trail : trail t N ≡ trail t M
  pub memory : after t M ≡ play (trail t M) M
  pub other_memory : after t N ≡ play (trail t M) N

-- a run whose looked places have equal values in two kin memories, and that has no outer restore, is one run in both
abbrev pub FrameLaw : Type 0 → Type 0
FrameLaw A = (t : Tree A) (M N : Memory) → Safe t M → Safe t N → Kin M N → outer (trail t M) ≡ None
    → AllByRecursion (λ l. value_at M l ≡ value_at N l) (looked (trail t M)) → SameRun t M N
