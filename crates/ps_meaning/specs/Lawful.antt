-- Lawful trees, which keep memories sound.
use Rattle.std.specs.Prelude.{◌≡◌, ◌≢◌, ◌⊎◌, ◌≤◌, ◌<◌, Bool, true, false, cond, List, [], ◌∷◌, Some, None, ⊤}
use Rattle.std.specs.List.{AllByRecursion}
use Rattle.ps_objects.specs.declared.cell.Cell.{Cell}
use Rattle.ps_objects.specs.declared.cell.SaveName.{SaveName}
use Rattle.ps_objects.specs.declared.place.Loc.{Loc}
use Rattle.ps_objects.specs.declared.place.Loc.TheVariants as loc
use Rattle.ps_objects.specs.declared.place.Value.{Value}
use Rattle.ps_objects.specs.declared.place.Value.TheVariants as value
use Rattle.ps_objects.specs.declared.place.Shape.{Shape}
use Rattle.ps_memory.specs.Memory.{is_global, newer, same_save, Memory, Spot, rand, paper, spot_of, is, standing_shape, is_kind, store, fresh, save, restore, tell}
use Rattle.ps_memory.specs.Tree.{Tree, ends, looks, acts, asks, result, after}
use Rattle.ps_memory.specs.Ownership.{same_cell}
use Rattle.ps_memory.specs.Frame.{later, Safe}
use Rattle.ps_meaning.specs.Fits.{Shapes, FitsObject, FitsKey, FitsSpot, SharedSpot, IsLoc}
use Rattle.ps_meaning.specs.World.{Size, size_of, World}
use Rattle.ps_meaning.specs.SoundMemory.{without_newer, SoundMemory}

-- an answer of the place's kind that fits
abbrev pub IsAnswer : World → Loc → Value → Type 0
IsAnswer W (loc.Entry d k) value.Absent = ⊤
IsAnswer W (loc.Entry d k) (value.Object x) = FitsKey W.shapes k × FitsObject W.shapes x
IsAnswer W (loc.Keys d) (value.Keys ks) = AllByRecursion (FitsKey W.shapes) ks
IsAnswer W (loc.Access d) (value.Access a) = ⊤
IsAnswer W (loc.Item a i) (value.Object x) = FitsObject W.shapes x
IsAnswer W (loc.Byte s i) (value.Byte n) = n < 256
IsAnswer W loc.Rand (value.Rand n) = is_kind rand (value.Rand n) ≡ true
IsAnswer W loc.Paper (value.Paper p) = size_of p ≡ W.size
IsAnswer W _ _ = ⊥

-- the shapes with a new cell
abbrev pub with_cell : Cell → Shape → Shapes → Shapes
with_cell c sh K d = cond (same_cell d c) (Some sh) (K d)

-- a world with a new cell
abbrev pub made : Cell → Shape → World → World
made c sh W = record { shapes = with_cell c sh W.shapes; saves = W.saves; size = W.size; section = W.section }

-- paper that is stored may have another size
abbrev pub new_size : Spot → Value → Size → Size
new_size paper (value.Paper p) old = size_of p
new_size _ _ old = old

-- a world after a store
abbrev pub resized : Loc → Value → World → World
resized l v W = record { shapes = W.shapes; saves = W.saves; size = new_size (spot_of l) v W.size; section = W.section }

-- a world with one save more
abbrev pub saved_at : SaveName → World → World
saved_at s W = record { shapes = W.shapes; saves = s ∷ W.saves; size = W.size; section = W.section }

-- a save of this name is open
abbrev pub has_name : SaveName → List SaveName → Bool
has_name s [] = false
has_name s (r ∷ rs) = cond (same_save s r) true (has_name s rs)

-- the saves that are older than the one of this name
abbrev pub names_before : SaveName → List SaveName → List SaveName
names_before s [] = []
names_before s (r ∷ rs) = cond (same_save s r) rs (names_before s rs)

-- a world once a save is restored
abbrev pub restored_to : SaveName → World → World
restored_to s W = record { shapes = without_newer s W.shapes; saves = names_before s W.saves; size = W.size; section = W.section }

-- a name that no cell has, in either space; a local cell is newer than the open saves
abbrev pub IsNew : Cell → World → Type 0
IsNew c W = (c.section ≡ W.section) × ((d : Cell) → d.section ≡ c.section → d.count ≡ c.count → W.shapes d ≡ None)
    × (is_global c ≡ false → AllByRecursion (λ r. newer c r ≡ true) W.saves)

-- a save of the section that runs: nothing newer stands, it is later than the open ones, and not of section 0
abbrev pub IsNewSave : SaveName → World → Type 0
IsNewSave s W = (s.section ≡ W.section) × ((c : Cell) → newer c s ≡ true → W.shapes c ≡ None) × AllByRecursion (λ r. later s r ≡ true) W.saves × (1 ≤ s.section)

-- whatever fitting answers it gets, the tree looks and stores only where there is a place, stores what fits, makes cells and saves by
-- their conditions, and ends with Q
abbrev pub Lawful : {A : Type 0} → Tree A → World → (World → A → Type 0) → Type 0
Lawful (ends a) W Q = Q W a
Lawful (looks l f) W Q = IsLoc W.shapes l × ((v : Value) → IsAnswer W l v → Lawful (f v) W Q)
Lawful (acts (store l v) t) W Q = IsLoc W.shapes l × (is_kind (spot_of l) v ≡ true) × FitsSpot W.shapes (spot_of l) (is v) × SharedSpot (spot_of l) (is v) × Lawful t (resized l v W) Q
Lawful (acts (fresh c sh) t) W Q = IsNew c W × Lawful t (made c sh W) Q
Lawful (acts (save s) t) W Q = IsNewSave s W × Lawful t (saved_at s W) Q
Lawful (acts (restore s) t) W Q = (has_name s W.saves ≡ true) × Lawful t (restored_to s W) Q
Lawful (acts (tell o) t) W Q = Lawful t W Q
Lawful (asks c f) W Q = (W.shapes c ≢ None) × Lawful (f (standing_shape (W.shapes c))) W Q

-- no cell of another section changes its shape or comes, and no save of another section comes
pub record StaysKin (W V : World) : Type 0 where
  pub section : V.section ≡ W.section
  pub others : (c : Cell) → c.section ≢ W.section → (V.shapes c ≡ W.shapes c) ⊎ (V.shapes c ≡ None)
  pub saves : (s : SaveName) → s.section ≢ W.section → has_name s V.saves ≡ true → has_name s W.saves ≡ true

-- a run that is safe, and leaves a sound memory of a world with Q
pub record Kept {A : Type 0} (t : Tree A) (W : World) (M : Memory) (Q : World → A → Type 0) : Type 0 where
  pub safe : Safe t M
  pub world : World
  pub sound : SoundMemory world (after t M)
  pub kin : StaysKin W world
  pub ends : Q world (result t M)

-- a lawful tree on a sound memory is safe, and leaves it sound
abbrev pub SoundnessLaw : Type 0 → Type 0
SoundnessLaw A = (t : Tree A) (W : World) (M : Memory) → Lawful t W (λ _ _. ⊤) → SoundMemory W M → Kept t W M (λ _ _. ⊤)
