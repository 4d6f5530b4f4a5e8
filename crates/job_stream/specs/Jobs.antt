-- The jobs of a stream.
use Rattle.std.specs.Prelude.{ℕ, Bool, not, ◌||◌, ◌==◌, List, filter}
use Rattle.std.specs.List.{list_all, slice_split}
-- Control-D parts jobs.
pub use Rattle.dsc_split.specs.Sections.{is_control_d}

-- NUL, TAB, LF, FF, CR and SPACE
abbrev pub is_white : ℕ → Bool
is_white byte = byte == 0 || byte == 9 || byte == 10 || byte == 12 || byte == 13 || byte == 32

-- white space alone, or nothing
abbrev pub is_blank : List ℕ → Bool
is_blank piece = list_all is_white piece

-- the pieces of a stream between its Control-D bytes, in order
abbrev pub pieces_of : List ℕ → List (List ℕ)
pieces_of stream = slice_split is_control_d stream

-- the pieces that aren't white space alone
abbrev pub jobs_among : List (List ℕ) → List (List ℕ)
jobs_among pieces = filter (λ piece. not (is_blank piece)) pieces

-- the jobs of a stream, in order
abbrev pub jobs_of : List ℕ → List (List ℕ)
jobs_of stream = jobs_among (pieces_of stream)
