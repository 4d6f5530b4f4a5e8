-- Memories along a run of sections: they are kin, and what no section has named yet stays unnamed.
use Rattle.std.specs.Prelude.{◌≡◌, ℕ, suc, ◌≤◌, false, List, [], ◌∷◌, None, ⊤}
use Rattle.std.specs.List.{AllByRecursion}
use Rattle.ps_objects.specs.declared.cell.Cell.{Cell}
use Rattle.ps_objects.specs.declared.cell.SaveName.{SaveName}
use Rattle.ps_memory.specs.Memory.{Memory}
use Rattle.ps_memory.specs.Frame.{Kin}
use Rattle.ps_meaning.specs.Sound.{World, SoundMemory, has_name, StaysKin}

-- the world in which another section runs
abbrev pub in_section : ℕ → World → World
in_section n W = record { shapes = W.shapes; saves = W.saves; size = W.size; section = n }

-- each world is what its section left of the one before
abbrev pub Follows : World → List World → Type 0
Follows W [] = ⊤
Follows W (V ∷ Vs) = StaysKin (in_section V.section W) V × Follows V Vs

-- the world that the last section left
abbrev pub last_of : World → List World → World
last_of W [] = W
last_of W (V ∷ Vs) = last_of V Vs

-- no cell has a name of the sections to come
abbrev pub IsBefore : World → List World → Type 0
IsBefore W Vs = AllByRecursion (λ V. (c : Cell) → c.section ≡ V.section → W.shapes c ≡ None) Vs

-- a memory, and a memory after any further sections: what stands in both has one shape
abbrev pub KinLaw : Type 0
KinLaw = (W : World) (Vs : List World) (B M : Memory) → Follows W Vs → IsBefore W Vs → SoundMemory W B → SoundMemory (last_of W Vs) M → Kin B M

-- no cell or save has a name of section n or of a later one
pub record HasNoneFrom (n : ℕ) (W : World) : Type 0 where
  pub cells : (c : Cell) → n ≤ c.section → W.shapes c ≡ None
  pub saves : (s : SaveName) → n ≤ s.section → has_name s W.saves ≡ false

-- the sections have rising numbers, from n on
abbrev pub AreRising : ℕ → List World → Type 0
AreRising n [] = ⊤
AreRising n (V ∷ Vs) = (n ≤ V.section) × AreRising (suc V.section) Vs

-- the number past that of the last section
abbrev pub past_last : ℕ → List World → ℕ
past_last n [] = n
past_last n (V ∷ Vs) = past_last (suc V.section) Vs

-- what has no name of section n or of a later one has none of the sections to come, and after them none of a later section
pub record UnnamedLaw : Type 0 where
  pub before : (n : ℕ) (W : World) (Vs : List World) → HasNoneFrom n W → AreRising n Vs → IsBefore W Vs
  pub after : (n : ℕ) (W : World) (Vs : List World) → HasNoneFrom n W → AreRising n Vs → Follows W Vs → HasNoneFrom (past_last n Vs) (last_of W Vs)
