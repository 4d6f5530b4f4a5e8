-- The comments of the structuring conventions that say where the sections of a job are, and the words behind them.
use Rattle.std.specs.Prelude.{ℕ, ◌+◌, ◌-◌, ◌*◌, Bool, true, false, not, ◌&&◌, ◌||◌, ◌==◌, List, [], ◌∷◌, length, drop, slice_index, filter, fold, if◌then◌else◌, Option, Some, None, nat_eq, nat_lt, codes}
use Rattle.std.specs.Char.{is_ascii_alphabetic, is_ascii_digit}
use Rattle.std.specs.List.{starts_with, list_all, slice_split}
use Rattle.std.specs.Str.{bytes_eq}
use Rattle.dsc_split.specs.declared.comment.Comment.{Comment}
use Rattle.dsc_split.specs.declared.comment.Comment.TheVariants.{EndProlog, Page, Trailer, BeginDocument, EndDocument, BeginData, BeginBinary}

-- a space or a tab
abbrev pub is_blank : ℕ → Bool
is_blank byte = byte == 32 || byte == 9

-- a comment name that ends in a letter, and not in a colon
abbrev pub ends_in_letter : List ℕ → Bool
ends_in_letter name = is_ascii_alphabetic (slice_index name (length name - 1))

-- a space, a tab or the end of the line comes next
abbrev pub begins_blank : List ℕ → Bool
begins_blank [] = true
begins_blank (byte ∷ _) = is_blank byte

-- A line (here without its line end) is the comment of a name where it begins with the name;
-- where the name ends in a letter, the next byte is a space, a tab, a line end or the end of the job.
abbrev pub is_comment : List ℕ → List ℕ → Bool
is_comment name line = starts_with nat_eq line name && (not (ends_in_letter name) || begins_blank (drop (length name) line))

-- the comment that a line is
abbrev pub comment_of : List ℕ → Option Comment
comment_of line =
    if is_comment (codes "%%EndProlog") line then Some EndProlog
    else if is_comment (codes "%%Page:") line then Some Page
    else if is_comment (codes "%%Trailer") line then Some Trailer
    else if is_comment (codes "%%BeginDocument:") line then Some BeginDocument
    else if is_comment (codes "%%EndDocument") line then Some EndDocument
    else if is_comment (codes "%%BeginData:") line then Some BeginData
    else if is_comment (codes "%%BeginBinary:") line then Some BeginBinary
    else None

-- words are the longest rows of bytes other than space and tab
abbrev pub words : List ℕ → List (List ℕ)
words text = filter (λ word. nat_lt 0 (length word)) (slice_split is_blank text)

-- the number that a row of digits writes
abbrev pub decimal_value : List ℕ → ℕ
decimal_value digits = fold (λ value digit. value * 10 + (digit - 48)) 0 digits

-- where a word isn't a row of digits, the comment counts for nothing
abbrev pub number_of : List ℕ → ℕ
number_of word = if list_all is_ascii_digit word then decimal_value word else 0

-- the first word is the count
abbrev pub counted : List (List ℕ) → ℕ
counted [] = 0
counted (word ∷ _) = number_of word

-- the unit is lines exactly where the third word, or the second where there is no third, is `Lines`
abbrev pub counts_lines : List (List ℕ) → Bool
counts_lines (_ ∷ _ ∷ third ∷ _) = bytes_eq third (codes "Lines")
counts_lines (_ ∷ second ∷ []) = bytes_eq second (codes "Lines")
counts_lines _ = false
