-- What holds of the sections of every job.
use Rattle.std.specs.Prelude.{◌≡◌, ℕ, ◌+◌, ◌-◌, ◌<◌, ◌≤◌, true, false, List, [], ◌∷◌, ◌++◌, length, map, All, replicate, nat_eq, codes}
use Rattle.std.specs.List.{slice_index_or, concat, starts_with}
use Rattle.ps_objects.specs.declared.section.SectionKind.TheVariants as kind
use Rattle.dsc_split.specs.declared.section.Section.{Section}
use Rattle.dsc_split.specs.Sections.{start_of, end_of, body_of, has_header, text_of, sections_of, is_page, page_count}

-- the sections in order, with the Control-D bytes at both ends, are the job: no byte is lost, and none stands twice
abbrev pub IsWhole : List ℕ → Type 0
IsWhole job = replicate (start_of job) 4 ++ concat (map (text_of job) (sections_of job)) ++ replicate (length job - end_of job) 4 ≡ job

-- they are numbered from 1 on
abbrev pub IsNumbered : List ℕ → Type 0
IsNumbered job = (k : ℕ) (other : Section) → k < length (sections_of job) → (slice_index_or (sections_of job) k other).number ≡ k + 1

-- there are one prolog, one setup and one trailer, with the pages before the trailer
abbrev pub HasItsKinds : List ℕ → Type 0
HasItsKinds job =
    map (λ s. s.kind) (sections_of job) ≡ kind.Prolog ∷ kind.Setup ∷ (replicate (page_count (sections_of job)) kind.Page ++ kind.Trailer ∷ [])

-- a job without a header is one prolog
abbrev pub IsPrologAlone : List ℕ → Type 0
IsPrologAlone job = has_header job ≡ false → map (text_of job) (sections_of job) ≡ body_of job ∷ [] ∷ [] ∷ []

-- each page begins with its `%%Page:` line
abbrev pub BeginsPages : List ℕ → Type 0
BeginsPages job = All (λ s. is_page s ≡ true → starts_with nat_eq (text_of job s) (codes "%%Page:") ≡ true) (sections_of job)

-- each section stands within the job
abbrev pub StandsWithin : List ℕ → List Section → Type 0
StandsWithin job sections = All (λ s. s.from + s.len ≤ length job) sections
