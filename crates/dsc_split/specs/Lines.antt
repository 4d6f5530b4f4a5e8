-- The lines of a job, without the data that some of them count.
use Rattle.std.specs.Prelude.{ℕ, zero, suc, ◌+◌, ◌-◌, Bool, ◌&&◌, ◌||◌, ◌==◌, List, [], ◌∷◌, length, drop, if◌then◌else◌, Option, Some, codes}
use Rattle.std.specs.List.{before_first}
use Rattle.dsc_split.specs.declared.comment.Comment.{Comment}
use Rattle.dsc_split.specs.declared.comment.Comment.TheVariants.{BeginData, BeginBinary}
use Rattle.dsc_split.specs.Comments.{comment_of, words, counted, counts_lines}

-- a carriage return or a line feed
abbrev pub ends_line : ℕ → Bool
ends_line byte = byte == 13 || byte == 10

-- the bytes of a text's first line, without its line end
abbrev pub line_of : List ℕ → List ℕ
line_of text = before_first ends_line text

-- A line ends in CR, LF or CR LF: the length of the line end that a text begins with.
abbrev pub line_end_len : List ℕ → ℕ
line_end_len [] = 0
line_end_len (_ ∷ []) = 1
line_end_len (first ∷ second ∷ _) = if first == 13 && second == 10 then 2 else 1

-- the length of a text's first line, with its line end
abbrev pub line_len : List ℕ → ℕ
line_len text = length (line_of text) + line_end_len (drop (length (line_of text)) text)

-- the length of a text's first lines
unfoldable pub lines_len : ℕ → List ℕ → ℕ
lines_len zero text = 0
lines_len (suc count) text = line_len text + lines_len count (drop (line_len text) text)

-- N bytes or N lines, as the words of a `%%BeginData:` line count them
abbrev pub counted_len : List (List ℕ) → List ℕ → ℕ
counted_len counts after = if counts_lines counts then lines_len (counted counts) after else counted counts

-- `%%BeginData: N` passes over N bytes or N lines after its own line, and `%%BeginBinary: N` over N bytes.
-- The words follow the colon. Where less is left, all is passed over.
abbrev pub data_len : Option Comment → List ℕ → List ℕ → ℕ
data_len (Some BeginData) line after = counted_len (words (drop (length (codes "%%BeginData:")) line)) after
data_len (Some BeginBinary) line after = counted (words (drop (length (codes "%%BeginBinary:")) line))
data_len _ line after = 0

-- a line of a job: the place where it begins, the place after its line end, and the comment that it is
pub record Line : Type 0 where
  pub from : ℕ
  pub to : ℕ
  pub comment : Option Comment

-- how far the first line of a text and the data that it counts reach
abbrev pub reach_of : List ℕ → ℕ
reach_of text = line_len text + data_len (comment_of (line_of text)) (line_of text) (drop (line_len text) text)

-- The lines of a text at a place, whose first `passed` bytes belong to an earlier line or to its data.
-- The place after counted data counts as a line's beginning.
unfoldable pub lines_at : ℕ → ℕ → List ℕ → List Line
lines_at place passed [] = []
lines_at place (suc passed) (_ ∷ rest) = lines_at (place + 1) passed rest
lines_at place zero (byte ∷ rest) =
    let text = byte ∷ rest in
    record { from = place; to = place + line_len text; comment = comment_of (line_of text) }
    ∷ lines_at (place + 1) (reach_of text - 1) rest
