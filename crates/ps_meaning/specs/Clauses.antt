-- Sound states in six clauses, about memory and registers alone.
use Rattle.std.specs.Prelude.{◌≡◌, ◌≢◌, ℕ, ◌≤◌, true, false, cond, List, [], ◌∷◌, map, Option, None, ⊤}
use Rattle.std.specs.FinMap.{get}
use Rattle.std.specs.List.{AllByRecursion}
use Rattle.ps_shapes.specs.Sheet.{Sheet}
use Rattle.ps_objects.specs.declared.cell.Cell.{Cell}
use Rattle.ps_objects.specs.declared.cell.SaveName.{SaveName}
use Rattle.ps_objects.specs.declared.place.Shape.{Shape}
use Rattle.ps_objects.specs.declared.place.Value.TheVariants as value
use Rattle.ps_kinds.specs.declared.regs.Regs.{Regs}
use Rattle.ps_kinds.specs.declared.regs.SaveMark.{SaveMark}
use Rattle.ps_memory.specs.Memory.{is_global, newer, CellMap, Memory, Slot, whole, held, rand, here, in_content, at, shape_in, shape_at, is_kind}
use Rattle.ps_meaning.specs.Fits.{Shapes, FitsObject, FitsFound, SharedFound, IsDict}
use Rattle.ps_meaning.specs.Sound.{StartStands, IsUnique, StringFits}
use Rattle.ps_meaning.specs.Registers.{FitsState, FitsLayers, HasBottom, SoundState, size_of_page}
use Rattle.ps_meaning.specs.Ready.{Fall}

-- What every memory has: a section and a count name one cell; a string has a byte at each of its places, and no other cell has any; the
-- state of the random numbers is in its range; the paper is here.
pub record IsMemory (M : Memory) : Type 0 where
  pub names : IsUnique (shape_at M)
  pub bytes : (c : Cell) → StringFits (shape_at M c) (get M.strings c)
  pub random : is_kind rand (value.Rand M.rand) ≡ true
  pub paper : (p : Sheet) × (M.page ≡ here p)

-- 1. The cells of the start stand with their shapes. The dictionary stack begins with those of the start, and each cell on it stands as a
-- dictionary. What objects in the registers, those in marks aside, and in the keys and values of memory name stands with a fitting shape
-- and range.
pub record NamesStanding (R : Regs) (M : Memory) : Type 0 where
  pub start : StartStands (shape_at M)
  pub bottom : HasBottom R.dicts
  pub dicts : AllByRecursion (IsDict (shape_at M)) R.dicts
  pub operands : AllByRecursion (FitsObject (shape_at M)) R.operands
  pub state : FitsState (shape_at M) R.state
  pub layers : FitsLayers (shape_at M) R.states
  pub memory : (c : Cell) (t : Slot) → FitsFound (shape_at M) t (at M (held c t))

-- the shape of a cell in a copy of local memory
abbrev pub copy_shape : CellMap → Cell → Option Shape
copy_shape C c = shape_in (in_content (get C c) whole)

-- what stands in a copy, or is global
abbrev pub shapes_with : Memory → CellMap → Shapes
shapes_with M C c = cond (is_global c) (shape_at M c) (copy_shape C c)

-- what objects in a copy name stands in that copy or is global, with a fitting shape and range
abbrev pub CopyFits : Memory → SaveName × CellMap → Type 0
CopyFits M k = (c : Cell) (t : Slot) → is_global c ≡ false → FitsFound (shapes_with M k.1) t (in_content (get k.1 c) t)

-- the same of the mark of each copy's save; marks stand in the order of the copies
abbrev pub MarksFit : Memory → List SaveMark → List (SaveName × CellMap) → Type 0
MarksFit M (m ∷ marks) (k ∷ kept) = FitsState (shapes_with M k.1) m.state × FitsLayers (shapes_with M k.1) m.states × MarksFit M marks kept
MarksFit M _ _ = ⊤

-- 2. What objects in a kept copy, or in the mark of that copy's save, name stands in that copy or is global, with a fitting shape and range.
pub record CopiesFit (R : Regs) (M : Memory) : Type 0 where
  pub copies : AllByRecursion (CopyFits M) M.kept
  pub marks : MarksFit M R.saves M.kept

-- 3. No key or value of a global cell names a local cell, but values of the system dictionary may name local cells of the start.
abbrev pub IsShared : Memory → Type 0
IsShared M = (c : Cell) (t : Slot) → is_global c ≡ true → SharedFound c t (at M (held c t))

-- a local cell of memory that isn't newer than a save stands in its copy, with the same shape
abbrev pub KeepsOld : Memory → SaveName × CellMap → Type 0
KeepsOld M k = (c : Cell) → is_global c ≡ false → newer c k.0 ≡ false → shape_at M c ≢ None → copy_shape k.1 c ≡ shape_at M c

-- so does one of a later save's copy
abbrev pub KeepsLater : SaveName × CellMap → SaveName × CellMap → Type 0
KeepsLater j k = (c : Cell) → is_global c ≡ false → newer c k.0 ≡ false → copy_shape j.1 c ≢ None → copy_shape k.1 c ≡ copy_shape j.1 c

-- each copy keeps what later ones have; the newest comes first
abbrev pub AllKeepLater : List (SaveName × CellMap) → Type 0
AllKeepLater [] = ⊤
AllKeepLater (j ∷ kept) = AllByRecursion (KeepsLater j) kept × AllKeepLater kept

-- a cell of a copy isn't newer than its save, and stands in memory with the same shape
abbrev pub StillStands : Memory → SaveName × CellMap → Type 0
StillStands M k = (c : Cell) → is_global c ≡ false → copy_shape k.1 c ≢ None → (newer c k.0 ≡ false) × (shape_at M c ≡ copy_shape k.1 c)

-- 4. Each local cell of memory, or of a later save's copy, that isn't newer than an open save stands in that save's copy with the same
-- shape. Each cell of a save's copy isn't newer than that save and stands in memory with the same shape.
pub record CopiesKeep (M : Memory) : Type 0 where
  pub old : AllByRecursion (KeepsOld M) M.kept
  pub later : AllKeepLater M.kept
  pub stands : AllByRecursion (StillStands M) M.kept

-- 5. The open saves of the registers are the names of memory's copies, each later than those behind it, and none is of section 0.
pub record SavesAgree (R : Regs) (M : Memory) : Type 0 where
  pub names : map (λ m. m.name) R.saves ≡ map (λ k. k.0) M.kept
  pub fall : Fall (map (λ k. k.0) M.kept)
  pub begun : AllByRecursion (λ k. 1 ≤ k.0.section) M.kept

-- 6. The paper is as wide and high as the graphics state says.
abbrev pub PaperFits : Regs → Memory → Type 0
PaperFits R M = size_of_page M.page ≡ record { width = R.state.wide; height = R.state.high }

-- registers and a memory that meet the six clauses
pub record IsSound (R : Regs) (M : Memory) : Type 0 where
  pub memory : IsMemory M
  pub names : NamesStanding R M
  pub copies : CopiesFit R M
  pub shared : IsShared M
  pub kept : CopiesKeep M
  pub saves : SavesAgree R M
  pub paper : PaperFits R M

-- a sound state is one that meets the six clauses
pub record ClausesLaw : Type 0 where
  pub met : (R : Regs) (M : Memory) → SoundState R M → IsSound R M
  pub enough : (R : Regs) (M : Memory) → IsSound R M → SoundState R M
