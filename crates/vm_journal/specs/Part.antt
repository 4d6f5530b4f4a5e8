-- The local part of a memory.
use Rattle.std.specs.Prelude.{◌≡◌, ℕ, Bool, true, false, not, List, [], ◌∷◌, reverse, refl, Option, Some, None}
use Rattle.std.specs.BTreeMap.{BTreeMap}
use Rattle.std.specs.Coded.{Coded, code_by, coded×, coded_list}
use Rattle.std.specs.FinMap as map
use Rattle.std.specs.FinMap.{FinMap, get, insert, remove, retain_keys}
use Rattle.std.specs.List.{AllByRecursion}
use Rattle.ps_objects.specs.declared.cell.Cell.{Cell}
use Rattle.ps_objects.specs.declared.cell.SaveName.{SaveName}
use Rattle.ps_objects.specs.declared.place.Loc.{Loc}
use Rattle.ps_objects.specs.declared.place.Value.{Value}
use Rattle.ps_objects.specs.contracts.cell.Cell as cells
use Rattle.ps_objects.specs.contracts.cell.SaveName as saves
use Rattle.ps_memory.specs.Order.{cell_cmp}
use Rattle.ps_memory.specs.Memory.{is_global, newer, Content, CellMap, put_content, put_cell}
use Rattle.ps_memory.specs.Frame.{later}
use Rattle.ps_memory.specs.Holders.{holds_string}
use Rattle.vm_content.specs.Back.{content_undone}
use Rattle.vm_content.specs.Coding.{content_code}
use Rattle.vm_content.specs.Content.{slot_in}
use Rattle.vm_content.specs.Maps.{cells_of}
use Rattle.vm_content.specs.declared.before.Before.{Before}
use Rattle.vm_journal.specs.Journal.{Saved, is_rising}

-- the local cells, and the copies that the open saves keep, the newest first
pub record Part : Type 0 where
  pub cells : CellMap
  pub kept : List (SaveName × CellMap)

-- no global cell is among them
abbrev pub AreLocal : CellMap → Type 0
AreLocal m = (c : Cell) → is_global c ≡ true → get m c ≡ None

-- cells are told from each other by what they hold
abbrev pub cells_code : Coded CellMap
cells_code = map.code cells.the_row.coded content_code

-- kept copies by their names and cells
abbrev pub kept_code : Coded (List (SaveName × CellMap))
kept_code = coded_list (coded× saves.the_row.coded cells_code)

-- local parts by their cells and copies
abbrev pub part_code : Coded Part
part_code = code_by (CellMap × List (SaveName × CellMap)) (coded× cells_code kept_code) (λ p. (p.cells, p.kept)) (λ p. record { cells = p.0; kept = p.1 }) (λ _. refl)

-- what is left of a map of cells when those newer than a save are gone
abbrev pub kept_from : {X : Type 0} → SaveName → FinMap cell_cmp X → FinMap cell_cmp X
kept_from s m = retain_keys m (λ c. not (newer c s))

-- bytes of local strings stand under the cells of strings alone
abbrev pub HaveCells : FinMap cell_cmp (List ℕ) → CellMap → Type 0
HaveCells strings m = (c : Cell) → is_global c ≡ false → holds_string (get m c) ≡ false → get strings c ≡ None

-- the name is later than those of all saves that keep copies
abbrev pub LaterThanAll : SaveName → List (SaveName × CellMap) → Type 0
LaterThanAll s kept = AllByRecursion (λ k. later s k.0 ≡ true) kept

-- What closing the newest save leaves: nothing changes where none is open. Else its copy is in place, the strings that are newer than
-- it are gone, and the older saves stay, whose names are all earlier.
abbrev pub Closes : Option SaveName → Part → Part → FinMap cell_cmp (List ℕ) → FinMap cell_cmp (List ℕ) → Type 0
Closes None old new before after = (old.kept ≡ []) × (new ≡ old) × (after ≡ before)
Closes (Some s) old new before after = (old.kept ≡ (s, new.cells) ∷ new.kept) × (after ≡ kept_from s before) × LaterThanAll s new.kept

-- the list has nothing
abbrev pub is_empty : {X : Type 0} → List X → Bool
is_empty [] = true
is_empty (x ∷ xs) = false

-- no global cell is among the cells, and the saves, the oldest first, have rising names
abbrev pub IsPart : CellMap → List Saved → Type 0
IsPart m saves = AreLocal m × (is_rising (reverse saves) ≡ true)

-- ---- what is done to a local part; the copies of open saves stay

-- a value is put at a place of a cell
abbrev pub part_put : Cell → Loc → Value → Part → Part
part_put c l v p = record { cells = put_cell c (put_content (slot_in l) v) p.cells; kept = p.kept }

-- a cell is added
abbrev pub part_with : Cell → Content → Part → Part
part_with c x p = record { cells = insert p.cells c x; kept = p.kept }

-- a cell is taken away
abbrev pub part_without : Cell → Part → Part
part_without c p = record { cells = remove p.cells c; kept = p.kept }

-- a save is opened, which keeps a copy
abbrev pub part_saved : SaveName → Part → Part
part_saved s p = record { cells = p.cells; kept = (s, p.cells) ∷ p.kept }

-- a write to a cell is taken back
abbrev pub part_undone : Cell → Before → Part → Part
part_undone c b p = record { cells = put_cell c (content_undone b) p.cells; kept = p.kept }

-- the newest save is closed, if there is one, whose name is told
abbrev pub ClosesNewest : Part → Part → BTreeMap Cell (List ℕ) → BTreeMap Cell (List ℕ) → Option SaveName → Type 0
ClosesNewest old new before after s = Closes s old new (cells_of before) (cells_of after)

-- the same cells hold strings
abbrev pub HoldAlike : CellMap → CellMap → Type 0
HoldAlike old new = (c : Cell) → holds_string (get new c) ≡ holds_string (get old c)
