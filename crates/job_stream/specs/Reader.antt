-- What a reader of streams holds, and what it tells.
use Rattle.std.specs.Prelude.{◌≡◌, ℕ, ◌+◌, min, false, List, [], ◌++◌, length, nat_lt, if◌then◌else◌, Option, Some, None}
use Rattle.std.specs.List.{list_any, position_or_len}
use Rattle.job_stream.specs.declared.reader.Fed.{Fed}
use Rattle.job_stream.specs.declared.reader.Fed.TheVariants.{More, Job, Large}
use Rattle.job_stream.specs.declared.reader.JobReader.{JobReader}
use Rattle.dsc_split.specs.declared.cutter.TheConstants.{JOB_LIMIT}
use Rattle.job_stream.specs.Jobs.{is_control_d, is_blank}

-- how many bytes are the front of some: those up to the first Control-D and it, or all where there is none
abbrev pub front_len : List ℕ → ℕ
front_len bytes = min (position_or_len is_control_d bytes + 1) (length bytes)

-- what is told of a piece at its end: nothing of white space alone; else that it is large where it has more bytes
-- than a job may have; else the job
abbrev pub told : List ℕ → Fed
told piece = if is_blank piece then More else (if nat_lt JOB_LIMIT (length piece) then Large else Job piece)

-- what is kept of a piece: nothing where it has more bytes than a job may have
abbrev pub kept : List ℕ → Option (List ℕ)
kept piece = if nat_lt JOB_LIMIT (length piece) then None else Some piece

-- the reader has read this piece so far
pub record Holds (reader : JobReader) (piece : List ℕ) : Type 0 where
  pub text : reader.text ≡ kept piece
  pub blank : reader.is_blank ≡ is_blank piece
  pub whole : list_any is_control_d piece ≡ false

-- the bytes stand behind the piece
abbrev pub Grows : JobReader → JobReader → List ℕ → Type 0
Grows old new bytes = (piece : List ℕ) → Holds old piece → Holds new (piece ++ bytes)

-- the bytes stand behind the piece, and nothing is told
pub record Continues (old new : JobReader) (bytes : List ℕ) (fed : Fed) : Type 0 where
  pub nothing : fed ≡ More
  pub grown : Grows old new bytes

-- the piece ends and is told, and the next one begins
pub record Ends (old new : JobReader) (fed : Fed) : Type 0 where
  pub piece_told : (piece : List ℕ) → Holds old piece → fed ≡ told piece
  pub begun : Holds new []

-- the same, with the bytes behind the piece
pub record EndsBehind (old new : JobReader) (bytes : List ℕ) (fed : Fed) : Type 0 where
  pub piece_told : (piece : List ℕ) → Holds old piece → fed ≡ told (piece ++ bytes)
  pub begun : Holds new []
