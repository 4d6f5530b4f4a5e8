-- The orders of cells and of keys.
use Rattle.std.specs.Prelude.{ℕ, true, false}
use Rattle.std.specs.Ordering.{nat_cmp, int_cmp, bool_cmp, ordering_then}
use Rattle.std.specs.Cmp.Lexicographic.{slice_cmp}
use Rattle.std.specs.declared.cmp.Ordering.{Ordering}
use Rattle.ps_objects.specs.declared.cell.Cell.{Cell}
use Rattle.ps_objects.specs.declared.cell.SaveName.{SaveName}
use Rattle.ps_objects.specs.declared.key.Key.{Key}
use Rattle.ps_objects.specs.declared.key.Key.TheVariants as key
use Rattle.ps_objects.specs.declared.objects.Interval.{Interval}
use Rattle.ps_objects.specs.Cell.{is_global}

-- cells by their sections, then by their counts, then the local one first
abbrev pub cell_order : Cell → Cell → Ordering
cell_order a b = ordering_then (nat_cmp a.section b.section) (ordering_then (nat_cmp a.count b.count) (bool_cmp (is_global a) (is_global b)))

-- saves by their sections, then by their counts
abbrev pub save_order : SaveName → SaveName → Ordering
save_order a b = ordering_then (nat_cmp a.section b.section) (nat_cmp a.count b.count)

-- parts of arrays by their cells, then by their starts, then by their lengths
abbrev pub interval_order : Interval → Interval → Ordering
interval_order a b = ordering_then (cell_order a.cell b.cell) (ordering_then (nat_cmp a.start b.start) (nat_cmp a.len b.len))

-- the places of the kinds of keys in their order
abbrev pub kind_rank : Key → ℕ
kind_rank (key.Name _) = 0
kind_rank (key.Integer _) = 1
kind_rank (key.Real _) = 2
kind_rank (key.Boolean false) = 3
kind_rank (key.Boolean true) = 4
kind_rank (key.Operator _) = 5
kind_rank (key.Dict _) = 6
kind_rank (key.Array _ _) = 7
kind_rank (key.File _ _) = 8
kind_rank (key.Save _) = 9
kind_rank (key.FontId _) = 10
kind_rank key.Mark = 11

-- names by their bytes, numbers by their values, operators by their places, the others by what they name; keys of different kinds by their kinds
abbrev pub key_order : Key → Key → Ordering
key_order (key.Name a) (key.Name b) = slice_cmp nat_cmp a b
key_order (key.Integer a) (key.Integer b) = int_cmp a b
key_order (key.Real a) (key.Real b) = int_cmp a.count b.count
key_order (key.Operator a) (key.Operator b) = nat_cmp a b
key_order (key.Dict a) (key.Dict b) = cell_order a b
key_order (key.Array a p) (key.Array b q) = ordering_then (interval_order a b) (bool_cmp p q)
key_order (key.File a i) (key.File b j) = ordering_then (nat_cmp a b) (nat_cmp i j)
key_order (key.Save a) (key.Save b) = save_order a b
key_order (key.FontId a) (key.FontId b) = cell_order a b
key_order a b = nat_cmp (kind_rank a) (kind_rank b)
