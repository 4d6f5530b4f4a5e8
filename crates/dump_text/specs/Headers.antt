-- The first lines of cells.
use Rattle.std.specs.Prelude.{ℕ, Bool, ◌||◌, ◌==◌, not, List, [], ◌++◌, codes, length, if◌then◌else◌}
use Rattle.std.specs.Fmt.{decimal}
use Rattle.std.specs.Str.{bytes_eq}
use Rattle.ps_objects.specs.declared.cell.Cell.{Cell}
use Rattle.ps_objects.specs.declared.cell.Space.{Space}
use Rattle.ps_objects.specs.declared.cell.Space.TheVariants as space
use Rattle.dump_lines.specs.Objects.{cell_text}

-- the cells of section 0 are the start's, and all others were made
abbrev pub is_made : Cell → Bool
is_made c = not (c.section == 0)

-- what is told of a whole cell: always of one that was made, and of one of the start where it differs
abbrev pub whole_line : Cell → List ℕ → List ℕ → List ℕ
whole_line c now before = if is_made c then now else (if bytes_eq now before then [] else now)

-- where a cell lies
abbrev pub space_text : Space → List ℕ
space_text space.Local = codes " local"
space_text space.Global = codes " global"

-- which cell is told of
unfoldable pub cell_label : Cell → List ℕ
cell_label c = codes "cell " ++ cell_text c ++ space_text c.space

-- the first line of a cell
unfoldable pub cell_line : Cell → List ℕ → ℕ → List ℕ
cell_line c kind size = cell_label c ++ kind ++ decimal size ++ codes "\n"

-- a cell that was made, or of which something is told
unfoldable pub block : Cell → List ℕ → ℕ → List ℕ → List ℕ
block c kind size told = if is_made c || not (length told == 0) then cell_line c kind size ++ told else []
