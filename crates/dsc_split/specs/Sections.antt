-- The sections of a job: prolog, setup, pages and trailer, as the structuring conventions cut a document. Which section a job has
-- without their comments is the project's own rule.
use Rattle.std.specs.Prelude.{ℕ, ◌+◌, ◌-◌, Bool, true, false, ◌==◌, List, [], ◌∷◌, ◌++◌, length, take, drop, if◌then◌else◌, count_by, nat_eq, codes}
use Rattle.std.specs.List.{prefix_len, suffix_len, starts_with}
use Rattle.std.specs.Fmt.{decimal}
use Rattle.ps_objects.specs.declared.section.SectionKind.{SectionKind}
use Rattle.ps_objects.specs.declared.section.SectionKind.TheVariants as kind
use Rattle.dsc_split.specs.declared.section.Section.{Section}
use Rattle.dsc_split.specs.declared.mark.Mark.{Mark}
use Rattle.dsc_split.specs.declared.mark.Mark.TheVariants.{EndProlog, Page, Trailer}
use Rattle.dsc_split.specs.Lines.{lines_at}
use Rattle.dsc_split.specs.Marks.{marks_of}

-- Control-D bytes at the very beginning and at the very end of the job belong to no section.
abbrev pub is_control_d : ℕ → Bool
is_control_d byte = byte == 4

-- the place where the sections begin, and the place where they end
abbrev pub start_of : List ℕ → ℕ
start_of job = prefix_len is_control_d job

-- the end of a job without the Control-D bytes there
abbrev pub end_of : List ℕ → ℕ
end_of job = length job - suffix_len is_control_d (drop (start_of job) job)

-- the bytes of all sections
abbrev pub body_of : List ℕ → List ℕ
body_of job = drop (start_of job) (take (end_of job) job)

-- The prolog goes up to and with the first `%%EndProlog` line. Where a `%%Page:` or `%%Trailer` line comes
-- earlier, the prolog ends before that line. Where none of the three comes, all is prolog.
abbrev pub prolog_end : ℕ → List Mark → ℕ
prolog_end end [] = end
prolog_end end (EndProlog after ∷ _) = after
prolog_end end (Page from ∷ _) = from
prolog_end end (Trailer from ∷ _) = from

-- Setup and each page go up to the next `%%Page:` or the first `%%Trailer` line, else to the end.
abbrev pub part_end : ℕ → List Mark → ℕ
part_end end [] = end
part_end end (EndProlog _ ∷ marks) = part_end end marks
part_end end (Page from ∷ _) = from
part_end end (Trailer from ∷ _) = from

-- the section from one place to another
abbrev pub section : ℕ → SectionKind → ℕ → ℕ → Section
section number kind from to = record { number = number; kind = kind; from = from; len = to - from }

-- A page begins with its `%%Page:` line. The trailer goes from the first `%%Trailer` line to the end; without
-- one it is empty and stands at the end. Nothing after it is a page. Sections are numbered in their order.
unfoldable pub pages_and_trailer : ℕ → ℕ → List Mark → List Section
pages_and_trailer number end [] = section number kind.Trailer end end ∷ []
pages_and_trailer number end (EndProlog _ ∷ marks) = pages_and_trailer number end marks
pages_and_trailer number end (Page from ∷ marks) =
    section number kind.Page from (part_end end marks) ∷ pages_and_trailer (number + 1) end marks
pages_and_trailer number end (Trailer from ∷ _) = section number kind.Trailer from end ∷ []

-- the sections between two places, cut at the marks: setup goes from the prolog's end on
abbrev pub sections_at : ℕ → ℕ → List Mark → List Section
sections_at start end marks =
    section 1 kind.Prolog start (prolog_end end marks)
    ∷ section 2 kind.Setup (prolog_end end marks) (part_end end marks)
    ∷ pages_and_trailer 3 end marks

-- how a text with document structure begins
abbrev pub begins_with_header : List ℕ → Bool
begins_with_header text = starts_with nat_eq text (codes "%!PS-Adobe-")

-- A job that doesn't begin with `%!PS-Adobe-` is one prolog; its setup and trailer are empty and stand at its
-- end, and it has no pages.
abbrev pub has_header : List ℕ → Bool
has_header job = begins_with_header (body_of job)

-- the sections of a job, cut at the marks of its lines; without a header all of it is the prolog
unfoldable pub sections_of : List ℕ → List Section
sections_of job =
    let start = start_of job in
    let end = end_of job in
    if has_header job then sections_at start end (marks_of 0 (lines_at start 0 (body_of job)))
    else section 1 kind.Prolog start end ∷ section 2 kind.Setup end end ∷ section 3 kind.Trailer end end ∷ []

-- the bytes of a section
abbrev pub text_of : List ℕ → Section → List ℕ
text_of job s = take s.len (drop s.from job)

-- the word for a kind, and how a section is written
abbrev pub kind_word : SectionKind → List ℕ
kind_word kind.Prolog = codes "prolog"
kind_word kind.Setup = codes "setup"
kind_word kind.Page = codes "page"
kind_word kind.Trailer = codes "trailer"

-- a section as it is written: its number, its kind, where it begins and its length
abbrev pub section_text : Section → List ℕ
section_text s =
    decimal s.number ++ codes " " ++ kind_word s.kind ++ codes " " ++ decimal s.from ++ codes " " ++ decimal s.len

-- how many sections are pages
abbrev pub is_page : Section → Bool
is_page s = is_page_kind s.kind where
  is_page_kind : SectionKind → Bool
  is_page_kind kind.Page = true
  is_page_kind _ = false

-- how many of the sections are pages
abbrev pub page_count : List Section → ℕ
page_count sections = count_by is_page sections
