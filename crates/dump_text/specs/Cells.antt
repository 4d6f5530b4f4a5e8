-- The lines of the cells.
use Rattle.std.specs.Prelude.{ℕ, Bool, List, [], ◌++◌, codes, flat_map, Option, Some, None, is_some}
use Rattle.std.specs.List.{filter}
use Rattle.std.specs.FinMap.{entries, from_entries, keys as keys_in}
use Rattle.ps_objects.specs.declared.cell.Cell.{Cell}
use Rattle.ps_objects.specs.declared.key.Key.{Key}
use Rattle.ps_objects.specs.declared.place.Loc.TheVariants as loc
use Rattle.ps_objects.specs.declared.place.Shape.{Shape}
use Rattle.ps_objects.specs.declared.place.Shape.TheVariants as shape
use Rattle.ps_memory.specs.Memory.{Memory, shape_at, value_at}
use Rattle.ps_memory.specs.Order.{cell_cmp}
use Rattle.dump_text.specs.Entries.{access_line, entry_line}
use Rattle.dump_text.specs.Headers.{block, whole_line}
use Rattle.dump_text.specs.Contents.{bytes_line, items_line}
use Rattle.dump_text.specs.Keys.{keys_at, merged}

-- the line of the entry of a key, where it differs between two memories, the start's and this one
unfoldable pub line_of_key : Memory → Memory → Cell → Key → List ℕ
line_of_key S M c k = entry_line k (value_at M (loc.Entry c k)) (value_at S (loc.Entry c k))

-- each entry that differs, in the order of the keys of both memories
unfoldable pub entry_lines : Memory → Memory → Cell → List ℕ
entry_lines S M c = flat_map (line_of_key S M c) (merged (keys_at S c) (keys_at M c))

-- the access of a dictionary, where it differs, and then its entries
unfoldable pub dict_lines : Memory → Memory → Cell → List ℕ
dict_lines S M c = access_line (value_at M (loc.Access c)) (value_at S (loc.Access c)) ++ entry_lines S M c

-- all items of an array that was made, or of one of the start that differs
unfoldable pub array_lines : Memory → Memory → Cell → ℕ → List ℕ
array_lines S M c len = whole_line c (items_line M c len) (items_line S c len)

-- the same of the bytes of a string
unfoldable pub string_lines : Memory → Memory → Cell → ℕ → List ℕ
string_lines S M c len = whole_line c (bytes_line M c len) (bytes_line S c len)

-- what is told of a cell of this shape
abbrev pub shape_lines : Memory → Memory → Cell → Shape → List ℕ
shape_lines S M c (shape.Dict capacity) = block c (codes " dict ") capacity (dict_lines S M c)
shape_lines S M c (shape.Array len) = block c (codes " array ") len (array_lines S M c len)
shape_lines S M c (shape.Str len) = block c (codes " string ") len (string_lines S M c len)

-- the same of a cell that may stand
abbrev pub lines_of : Memory → Memory → Cell → Option Shape → List ℕ
lines_of S M c None = []
lines_of S M c (Some sh) = shape_lines S M c sh

-- what is told of a cell
unfoldable pub cell_lines : Memory → Memory → Cell → List ℕ
cell_lines S M c = lines_of S M c (shape_at M c)

-- the names in both parts of memory, by section and then by count
abbrev pub all_names : Memory → List Cell
all_names M = keys_in (from_entries {R = cell_cmp} (entries M.locals ++ entries M.globals))

-- a cell of this name stands
abbrev pub stands : Memory → Cell → Bool
stands M c = is_some (shape_at M c)

-- the cells that stand, by section and then by count
unfoldable pub cells_of : Memory → List Cell
cells_of M = filter (stands M) (all_names M)
