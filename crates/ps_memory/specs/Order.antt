-- The orders of cells and of keys, which are those of the Rust types.
use Rattle.std.specs.declared.cmp.Ordering.{Ordering}
use Rattle.ps_objects.specs.declared.cell.Cell.{Cell}
use Rattle.ps_objects.specs.declared.key.Key.{Key}
use Rattle.ps_objects.specs.contracts.cell.CellOrd.TheImpl as cell_order
use Rattle.ps_objects.specs.contracts.key.KeyOrd.TheImpl as key_order

-- by section, then by count, then by space
abbrev pub cell_cmp : Cell → Cell → Ordering
cell_cmp = cell_order.ghosts.cmp

-- in the order of the kinds, and within one by the values
abbrev pub key_cmp : Key → Key → Ordering
key_cmp = key_order.ghosts.cmp
