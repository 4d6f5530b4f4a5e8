-- What is put into the parts of a memory.
use Rattle.std.specs.Prelude.{ℕ, List, cond, replicate}
use Rattle.std.specs.BTreeMap.{BTreeMap}
use Rattle.std.specs.FinMap.{FinMap, insert}
use Rattle.ps_objects.specs.declared.cell.Cell.{Cell}
use Rattle.ps_objects.specs.declared.place.Value.TheVariants as value
use Rattle.ps_memory.specs.Order.{cell_cmp}
use Rattle.ps_memory.specs.Memory.{is_global, Content, CellMap, Memory, with_part, put_byte, put_cell}
use Rattle.vm_content.specs.Maps.{cells_of}
use Rattle.vm_journal.specs.Part.{Part}

-- the local part with a cell, if it is local
abbrev pub with_local : Cell → Content → Part → Part
with_local c x p = record { cells = cond (is_global c) p.cells (insert p.cells c x); kept = p.kept }

-- the global cells with a cell, if it is global
abbrev pub with_global : Cell → Content → BTreeMap Cell Content → CellMap
with_global c x m = cond (is_global c) (insert (cells_of m) c x) (cells_of m)

-- a memory with the cell of a string, and its zeros
abbrev pub with_string : Cell → ℕ → Content → Memory → Memory
with_string c len x M = record (with_part M c (λ m. insert m c x)) { strings = insert M.strings c (replicate len 0) }

-- the bytes of strings with a byte put at a place of one, if it is that long
abbrev pub with_byte : Cell → ℕ → ℕ → FinMap cell_cmp (List ℕ) → FinMap cell_cmp (List ℕ)
with_byte c i n m = put_cell c (put_byte i (value.Byte n)) m
