-- Sound registers, and sound states: registers and a memory that fit each other.
use Rattle.std.specs.Prelude.{◌≡◌, ℕ, List, [], ◌∷◌, ◌++◌, map, ⊤}
use Rattle.std.specs.List.{AllByRecursion}
use Rattle.ps_objects.specs.declared.cell.Cell.{Cell}
use Rattle.ps_objects.specs.declared.cell.SaveName.{SaveName}
use Rattle.ps_objects.specs.declared.cell.Space.TheVariants.{Local, Global}
use Rattle.ps_kinds.specs.declared.graphics.GState.{GState}
use Rattle.ps_kinds.specs.declared.graphics.Layer.{Layer}
use Rattle.ps_kinds.specs.declared.regs.Regs.{Regs}
use Rattle.ps_kinds.specs.declared.regs.SaveMark.{SaveMark}
use Rattle.ps_memory.specs.Memory.{Memory, Page, here, out, shape_at}
use Rattle.ps_meaning.specs.Fits.{Shapes, FitsObject, IsDict}
use Rattle.ps_meaning.specs.Sound.{Size, size_of, World, without_newer, SoundMemory}

-- the objects of a graphics state
pub record FitsState (K : Shapes) (g : GState) : Type 0 where
  pub dash : FitsObject K g.dash
  pub spot : FitsObject K g.spot
  pub transfer : FitsObject K g.transfer
  pub halftone : FitsObject K g.halftone
  pub font : FitsObject K g.font

-- the objects of the graphics stack
abbrev pub FitsLayers : Shapes → List Layer → Type 0
FitsLayers K = AllByRecursion (λ l. FitsState K l.state)

-- the system dictionary (section 3.7.4 of the language manual: standard and user-defined dictionaries)
abbrev pub system_dict : Cell
system_dict = record { section = 0; count = 0; space = Global }

-- the global dictionary
abbrev pub global_dict : Cell
global_dict = record { section = 0; count = 1; space = Global }

-- the user dictionary
abbrev pub user_dict : Cell
user_dict = record { section = 0; count = 2; space = Local }

-- the bottom of the dictionary stack, which no program takes away
abbrev pub HasBottom : List Cell → Type 0
HasBottom dicts = (above : List Cell) × (dicts ≡ above ++ user_dict ∷ global_dict ∷ system_dict ∷ [])

-- what a mark keeps fits what its restore would leave; the marks are those of the open saves
abbrev pub SoundMarks : Shapes → List SaveMark → List SaveName → Type 0
SoundMarks K [] [] = ⊤
SoundMarks K (m ∷ marks) (s ∷ saves) = (m.name ≡ s) × FitsState (without_newer s K) m.state × FitsLayers (without_newer s K) m.states × SoundMarks K marks saves
SoundMarks K _ _ = ⊥

-- registers that fit a memory of this world; the paper has the size that the graphics state says
pub record SoundRegisters (W : World) (R : Regs) : Type 0 where
  pub operands : AllByRecursion (FitsObject W.shapes) R.operands
  pub dicts : AllByRecursion (IsDict W.shapes) R.dicts
  pub bottom : HasBottom R.dicts
  pub state : FitsState W.shapes R.state
  pub states : FitsLayers W.shapes R.states
  pub marks : SoundMarks W.shapes R.saves W.saves
  pub size : W.size ≡ record { width = R.state.wide; height = R.state.high }

-- the size of the paper, also while it is out
abbrev pub size_of_page : Page → Size
size_of_page (here p) = size_of p
size_of_page (out w h) = record { width = w; height = h }

-- the world of a memory, for a section of this number
abbrev pub world_of : ℕ → Memory → World
world_of n M = record { shapes = shape_at M; saves = map (λ k. k.0) M.kept; size = size_of_page M.page; section = n }

-- a sound state of registers and memory, whatever section runs
pub record SoundState (R : Regs) (M : Memory) : Type 0 where
  pub registers : (n : ℕ) → SoundRegisters (world_of n M) R
  pub memory : (n : ℕ) → SoundMemory (world_of n M) M
