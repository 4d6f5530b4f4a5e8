-- What holds of the jobs of every stream.
use Rattle.std.specs.Prelude.{◌≡◌, ℕ, Bool, true, false, List, [], ◌∷◌, ◌++◌, map, filter, if◌then◌else◌, All}
use Rattle.std.specs.List.{list_any, join_with_byte}
use Rattle.job_stream.specs.declared.reader.Fed.{Fed}
use Rattle.job_stream.specs.declared.reader.Fed.TheVariants.{More, Job, Large}
use Rattle.job_stream.specs.Jobs.{is_control_d, pieces_of, jobs_among, jobs_of}
use Rattle.job_stream.specs.Reader.{told}

-- The pieces, joined by Control-D, are the stream.
abbrev pub IsJoined : List ℕ → Type 0
IsJoined stream = join_with_byte 4 (pieces_of stream) ≡ stream

-- No Control-D stands in a piece.
abbrev pub IsApart : List ℕ → Type 0
IsApart stream = All (λ piece. list_any is_control_d piece ≡ false) (pieces_of stream)

-- A piece without Control-D in front of one is the first job, if it is a job at all; the others come behind it.
abbrev pub IsFirst : List ℕ → List ℕ → Type 0
IsFirst piece rest = list_any is_control_d piece ≡ false → jobs_of (piece ++ 4 ∷ rest) ≡ jobs_among (piece ∷ []) ++ jobs_of rest

-- A piece without Control-D at the end of a stream is the last job, if it is a job at all.
abbrev pub IsLast : List ℕ → Type 0
IsLast piece = list_any is_control_d piece ≡ false → jobs_of piece ≡ jobs_among (piece ∷ [])

-- what a reader tells at each byte of a stream and at its end, where it holds a piece
abbrev pub answers : List ℕ → List ℕ → List Fed
answers piece [] = told piece ∷ []
answers piece (byte ∷ rest) = if is_control_d byte then told piece ∷ answers [] rest else More ∷ answers (piece ++ byte ∷ []) rest

-- whether a job is told
abbrev pub is_job : Fed → Bool
is_job More = false
is_job (Job _) = true
is_job Large = true

-- What is told of a stream are its jobs, each once and in order.
abbrev pub IsTold : List ℕ → Type 0
IsTold stream = filter is_job (answers [] stream) ≡ map told (jobs_of stream)
