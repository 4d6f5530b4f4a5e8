-- The lines of the state of the random numbers and of the paper.
use Rattle.std.specs.Prelude.{ℕ, zero, suc, List, [], ◌++◌, take, drop, nat_eq, codes, if◌then◌else◌}
use Rattle.std.specs.List.{list_all}
use Rattle.std.specs.Fmt.{decimal}
use Rattle.ps_shapes.specs.Bits.{stride_of}
use Rattle.ps_shapes.specs.Picture.{picture_bytes}
use Rattle.ps_shapes.specs.Sheet.{Sheet}
use Rattle.ps_objects.specs.declared.place.Value.{Value}
use Rattle.ps_objects.specs.declared.place.Value.TheVariants as value
use Rattle.dump_lines.specs.Hex.{hex}

-- the state of the random numbers
unfoldable pub rand_line : Value → List ℕ
rand_line (value.Rand n) = codes "rand " ++ decimal n ++ codes "\n"
rand_line _ = []

-- a row in hex, behind a space
unfoldable pub row_text : List ℕ → List ℕ
row_text row = codes " " ++ hex row

-- rows of so many bytes
unfoldable pub rows_text : ℕ → ℕ → List ℕ → List ℕ
rows_text stride zero bytes = []
rows_text stride (suc rows) bytes = row_text (take stride bytes) ++ rows_text stride rows (drop stride bytes)

-- the paper is blank, or its rows
abbrev pub rows_or_blank : Sheet → List ℕ
rows_or_blank s = if list_all (λ byte. nat_eq byte 0) (picture_bytes s) then codes " blank" else rows_text (stride_of s.width) s.height (picture_bytes s)

-- the paper
unfoldable pub paper_line : Value → List ℕ
paper_line (value.Paper s) = codes "paper" ++ rows_or_blank s ++ codes "\n"
paper_line _ = []
