-- Sound memories.
use Rattle.std.specs.Prelude.{◌≡◌, ◌≢◌, ℕ, ◌≤◌, ◌<◌, true, false, cond, List, [], ◌∷◌, length, Option, Some, None, ⊤}
use Rattle.std.specs.FinMap.{get}
use Rattle.std.specs.List.{AllByRecursion}
use Rattle.ps_shapes.specs.Sheet.{Sheet}
use Rattle.ps_objects.specs.declared.cell.Cell.{Cell}
use Rattle.ps_objects.specs.declared.cell.SaveName.{SaveName}
use Rattle.ps_objects.specs.declared.cell.Space.{Space}
use Rattle.ps_objects.specs.declared.cell.Space.TheVariants.{Local, Global}
use Rattle.ps_objects.specs.declared.place.Value.TheVariants as value
use Rattle.ps_objects.specs.declared.place.Shape.{Shape}
use Rattle.ps_objects.specs.declared.place.Shape.TheVariants as shape
use Rattle.ps_memory.specs.Memory.{is_global, newer, CellMap, Memory, Slot, whole, held, rand, paper, here, is, in_content, at, shape_in, shape_at, is_kind, save, restore}
use Rattle.ps_memory.specs.Frame.{later}
use Rattle.ps_meaning.specs.Fits.{Shapes, FitsFound, SharedFound}
use Rattle.ps_meaning.specs.World.{size_of, World}

-- the cells that stand from the start, all of section 0: count, space and shape
pub record StartCell : Type 0 where
  pub count : ℕ
  pub space : Space
  pub shape : Shape

-- a cell of the start by its count, its space and its shape
abbrev pub at_start : ℕ → Space → Shape → StartCell
at_start n s sh = record { count = n; space = s; shape = sh }

-- systemdict, globaldict, userdict, errordict, $error, statusdict, the font directories, the version, the product, and the empty dash array
abbrev pub start_cells : List StartCell
start_cells =
    at_start 0 Global (shape.Dict 0) ∷ at_start 1 Global (shape.Dict 0) ∷ at_start 2 Local (shape.Dict 0) ∷ at_start 3 Local (shape.Dict 0)
    ∷ at_start 4 Local (shape.Dict 0) ∷ at_start 5 Local (shape.Dict 0) ∷ at_start 6 Local (shape.Dict 0) ∷ at_start 7 Global (shape.Dict 0)
    ∷ at_start 8 Local (shape.Str 8) ∷ at_start 9 Global (shape.Str 8) ∷ at_start 10 Local (shape.Array 0) ∷ []

-- its name
abbrev pub named_at_start : StartCell → Cell
named_at_start e = record { section = 0; count = e.count; space = e.space }

-- the cells of the start stand with their shapes
abbrev pub StartStands : Shapes → Type 0
StartStands K = AllByRecursion (λ e. K (named_at_start e) ≡ Some e.shape) start_cells

-- a section and a count name one cell, whatever its space
abbrev pub IsUnique : Shapes → Type 0
IsUnique K = (c d : Cell) → K c ≢ None → K d ≢ None → c.section ≡ d.section → c.count ≡ d.count → c ≡ d

-- the bytes of a cell of this shape
abbrev pub StringFits : Option Shape → Option (List ℕ) → Type 0
StringFits (Some (shape.Str n)) o = (bs : List ℕ) × (o ≡ Some bs) × (length bs ≡ n) × AllByRecursion (λ b. b < 256) bs
StringFits _ o = o ≡ None

-- what stands once a save is restored
abbrev pub without_newer : SaveName → Shapes → Shapes
without_newer s K c = cond (newer c s) None (K c)

-- a copy of the local part, of these shapes
pub record SoundCopy (J : Shapes) (C : CellMap) : Type 0 where
  pub shapes : (c : Cell) → is_global c ≡ false → shape_in (in_content (get C c) whole) ≡ J c
  pub slots : (c : Cell) (t : Slot) → is_global c ≡ false → FitsFound J t (in_content (get C c) t)

-- Each copy fits what its restore would leave. Names fall along the list, and none is of section 0.
abbrev pub SoundKept : Shapes → List SaveName → List (SaveName × CellMap) → Type 0
SoundKept K [] [] = ⊤
SoundKept K (s ∷ saves) (k ∷ kept) = (k.0 ≡ s) × (1 ≤ s.section) × SoundCopy (without_newer s K) k.1 × AllByRecursion (λ r. later s r ≡ true) saves × SoundKept K saves kept
SoundKept K _ _ = ⊥

-- A memory of this world. Each object and key names what stands; a global cell names no local one; the start cells stand;
-- a name is one cell's; strings have their bytes; the paper is there, with its size.
pub record SoundMemory (W : World) (M : Memory) : Type 0 where
  pub shapes : (c : Cell) → shape_at M c ≡ W.shapes c
  pub slots : (c : Cell) (t : Slot) → FitsFound W.shapes t (at M (held c t))
  pub shared : (c : Cell) (t : Slot) → is_global c ≡ true → SharedFound c t (at M (held c t))
  pub start : StartStands W.shapes
  pub unique : IsUnique W.shapes
  pub strings : (c : Cell) → StringFits (W.shapes c) (get M.strings c)
  pub kept : SoundKept W.shapes W.saves M.kept
  pub rand : is_kind rand (value.Rand M.rand) ≡ true
  pub page : (p : Sheet) × (M.page ≡ here p) × (size_of p ≡ W.size)
