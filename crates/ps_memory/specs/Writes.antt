-- What a run leaves to be done on another memory: its actions, without those that an inner restore took back.
use Rattle.std.specs.Prelude.{◌≡◌, Bool, true, false, cond, not, List, [], ◌∷◌, Option, Some, None, option_map, ⊤}
use Rattle.std.specs.List.{AllByRecursion}
use Rattle.ps_objects.specs.declared.cell.SaveName.{SaveName}
use Rattle.ps_objects.specs.declared.place.Loc.{Loc}
use Rattle.ps_objects.specs.declared.place.Loc.TheVariants as loc
use Rattle.ps_objects.specs.declared.place.Value.{Value}
use Rattle.ps_objects.specs.declared.place.Value.TheVariants as value
use Rattle.ps_memory.specs.Memory.{is_global, newer, same_save, Spot, held, byte, rand, paper, spot_of, Memory, Action, store, fresh, save, restore, tell, perform, value_at, blank}
use Rattle.ps_memory.specs.Tree.{Tree, Step, looked_at, did, result, trail, after}
use Rattle.ps_memory.specs.Ownership.{same_spot, in_cell, outlives, looked, outer}
use Rattle.ps_memory.specs.Frame.{Allowed, Safe, Kin}

-- a list of writes done on a memory, the newest write first
abbrev pub apply : List Action → Memory → Memory
apply [] M = M
apply (w ∷ ws) M = perform w (apply ws M)

-- a restore and an output are never among the writes
abbrev pub is_write : Action → Bool
is_write (store l v) = true
is_write (fresh c sh) = true
is_write (save s) = true
is_write (restore s) = false
is_write (tell o) = false

-- each write meets its condition on the memory where it is done
abbrev pub Applicable : List Action → Memory → Type 0
Applicable [] M = ⊤
Applicable (w ∷ ws) M = (is_write w ≡ true) × Allowed w (apply ws M) × Applicable ws M

-- what outlives the restore of an older save
abbrev pub survives : SaveName → Action → Bool
survives s (store l v) = outlives s (spot_of l)
survives s (fresh c sh) = is_global c
survives s (save r) = false
survives s (restore r) = false
survives s (tell o) = false

-- the writes that are left once a save is restored
abbrev pub writes_left : SaveName → List Action → List Action
writes_left s [] = []
writes_left s (save r ∷ ws) = cond (same_save s r) ws (writes_left s ws)
writes_left s (w ∷ ws) = cond (survives s w) (w ∷ writes_left s ws) (writes_left s ws)

-- The writes with a value in place of what an earlier store put there. The search passes what has nothing to do with the
-- place, and those saves that the store outlives.
abbrev pub store_replaced : Loc → Value → List Action → Option (List Action)
store_replaced l v [] = None
store_replaced l v (store k w ∷ ws) = cond (same_spot (spot_of k) (spot_of l)) (Some (store k v ∷ ws)) (option_map (λ us. store k w ∷ us) (store_replaced l v ws))
store_replaced l v (fresh c sh ∷ ws) = cond (in_cell c (spot_of l)) None (option_map (λ us. fresh c sh ∷ us) (store_replaced l v ws))
store_replaced l v (save s ∷ ws) = cond (outlives s (spot_of l)) (option_map (λ us. save s ∷ us) (store_replaced l v ws)) None
store_replaced l v (restore s ∷ ws) = None
store_replaced l v (tell o ∷ ws) = None

-- the writes with paper of no size in place of the newest paper that they store
abbrev pub with_empty_paper : List Action → List Action
with_empty_paper ws = elim (store_replaced loc.Paper (value.Paper (blank 0 0)) ws) as (λ _. List Action) [ None ↦ ws | Some us ↦ us ]

-- the writes with one action more: a restore takes some back, and a store may replace an earlier one
abbrev pub note : Action → List Action → List Action
note (store l v) ws = elim (store_replaced l v ws) [ None ↦ store l v ∷ ws | Some us ↦ us ]
note (fresh c sh) ws = fresh c sh ∷ ws
note (save s) ws = save s ∷ ws
note (restore s) ws = writes_left s ws
note (tell o) ws = ws

-- the writes after further steps of a trail
abbrev pub writes_from : List Action → List Step → List Action
writes_from ws [] = ws
writes_from ws (looked_at l ∷ steps) = writes_from ws steps
writes_from ws (did w ∷ steps) = writes_from (note w ws) steps

-- the writes of a trail
abbrev pub writes : List Step → List Action
writes = writes_from []

-- a run on B, told by what it looked at and what it wrote, holds on M
pub record Holds {A : Type 0} (t : Tree A) (B M : Memory) : Type 0 where
  pub same_result : result t M ≡ result t B
  pub same_trail : trail t M ≡ trail t B
  pub applicable : Applicable (writes (trail t B)) M
  pub written : after t M ≡ apply (writes (trail t B)) M

-- a run holds on each kin memory that has the values of its looked places, where it has no outer restore
abbrev pub CertificateLaw : Type 0 → Type 0
CertificateLaw A = (t : Tree A) (B M : Memory) → Safe t B → Safe t M → Kin B M → outer (trail t B) ≡ None
    → AllByRecursion (λ l. value_at B l ≡ value_at M l) (looked (trail t B)) → Holds t B M

-- the writes open a save of this name
abbrev pub is_open : SaveName → List Action → Bool
is_open s [] = false
is_open s (save r ∷ ws) = cond (same_save s r) true (is_open s ws)
is_open s (_ ∷ ws) = is_open s ws

-- noting a restore of a save that the writes open does what the restore does
abbrev pub RestoringLaw : Type 0
RestoringLaw = (s : SaveName) (ws : List Action) (M : Memory) → Applicable ws M → is_open s ws ≡ true
    → (apply (note (restore s) ws) M ≡ perform (restore s) (apply ws M)) × Applicable (note (restore s) ws) M

-- noting a store does what the store does, wherever it put it
abbrev pub ReplacingLaw : Type 0
ReplacingLaw = (l : Loc) (v : Value) (ws : List Action) (M : Memory) → Applicable ws M → Allowed (store l v) (apply ws M)
    → (apply (note (store l v) ws) M ≡ perform (store l v) (apply ws M)) × Applicable (note (store l v) ws) M
