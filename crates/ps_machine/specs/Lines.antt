-- What a run shows and says.
use Rattle.std.specs.Prelude.{ℕ, ◌-◌, ◌==◌, List, [], ◌∷◌, ◌++◌, length, Option, Some, None, slice_get, if◌then◌else◌}
use Rattle.ps_shapes.specs.Sheet.{Sheet}
use Rattle.ps_memory.specs.Memory.{Output, picture, message}

-- the papers shown, in order
abbrev pub papers_of : List Output → List Sheet
papers_of [] = []
papers_of (picture p ∷ out) = p ∷ papers_of out
papers_of (message t ∷ out) = papers_of out

-- the bytes said
abbrev pub messages_of : List Output → List ℕ
messages_of [] = []
messages_of (picture p ∷ out) = messages_of out
messages_of (message t ∷ out) = t ++ messages_of out

-- the last byte of a text
abbrev pub last_byte : List ℕ → Option ℕ
last_byte text = slice_get text (length text - 1)

-- the last byte, where a text follows one that ended with another
abbrev pub last_after : Option ℕ → List ℕ → Option ℕ
last_after last [] = last
last_after last (b ∷ bs) = last_byte (b ∷ bs)

-- a line end, where the last byte is none
abbrev pub line_end_after : Option ℕ → List ℕ
line_end_after None = []
line_end_after (Some b) = if b == 10 then [] else 10 ∷ []

-- a text whose last line is open gets a line end
abbrev pub line_ended : List ℕ → List ℕ
line_ended text = text ++ line_end_after (last_byte text)
