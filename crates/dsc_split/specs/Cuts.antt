-- How a job is cut while its marks are read.
use Rattle.std.specs.Prelude.{◌≡◌, ℕ, ◌+◌, ◌<◌, ◌≤◌, Bool, true, false, List, [], ◌∷◌, ◌++◌, length, drop, nat_le, if◌then◌else◌}
use Rattle.ps_objects.specs.declared.section.SectionKind.{SectionKind}
use Rattle.ps_objects.specs.declared.section.SectionKind.TheVariants as kind
use Rattle.dsc_split.specs.declared.section.Section.{Section}
use Rattle.dsc_split.specs.declared.mark.Mark.{Mark}
use Rattle.dsc_split.specs.declared.mark.Mark.TheVariants.{EndProlog, Page, Trailer}
use Rattle.dsc_split.specs.declared.cutter.Cutter.{Cutter}
use Rattle.dsc_split.specs.declared.cutter.SplitError.{SplitError}
use Rattle.dsc_split.specs.declared.cutter.SplitError.TheVariants.{TooManyPages, NoMemory}
use Rattle.dsc_split.specs.declared.cutter.TheConstants.{MAX_PAGES, MAX_SECTIONS}
use Rattle.dsc_split.specs.Sections.{begins_with_header, section, sections_of, page_count, prolog_end, part_end, pages_and_trailer}

-- when each refusal comes: too many pages exactly where there are more than 100,000, with their number
abbrev pub Refuses : List ℕ → SplitError → Type 0
Refuses job (TooManyPages count) = (page_count (sections_of job) ≡ count) × (MAX_PAGES < count)
Refuses job NoMemory = Unit {0}

-- where the prolog ends if a mark is the first
abbrev pub place_of : Mark → ℕ
place_of (EndProlog to) = to
place_of (Page from) = from
place_of (Trailer from) = from

-- setup or a page
abbrev pub is_part : SectionKind → Bool
is_part kind.Prolog = false
is_part kind.Setup = true
is_part kind.Page = true
is_part kind.Trailer = false

-- what is open once the prolog is closed
abbrev pub after_prolog : SectionKind → SectionKind
after_prolog kind.Prolog = kind.Setup
after_prolog kind.Setup = kind.Setup
after_prolog kind.Page = kind.Page
after_prolog kind.Trailer = kind.Trailer

-- places in order, up to an end
abbrev pub IsOrdered : ℕ → ℕ → List Mark → Type 0
IsOrdered from end [] = from ≤ end
IsOrdered from end (mark ∷ marks) = (from ≤ place_of mark) × IsOrdered (place_of mark) end marks

-- the sections from the one that is open on, before the marks that are left
unfoldable pub sections_left : ℕ → SectionKind → ℕ → ℕ → List Mark → List Section
sections_left number kind.Prolog from end marks =
    section number kind.Prolog from (prolog_end end marks)
    ∷ section (number + 1) kind.Setup (prolog_end end marks) (part_end end marks)
    ∷ pages_and_trailer (number + 1 + 1) end marks
sections_left number kind.Setup from end marks = section number kind.Setup from (part_end end marks) ∷ pages_and_trailer (number + 1) end marks
sections_left number kind.Page from end marks = section number kind.Page from (part_end end marks) ∷ pages_and_trailer (number + 1) end marks
sections_left number kind.Trailer from end marks = section number kind.Trailer from end ∷ []

-- the sections that a cutter still has to close
abbrev pub left_of : Cutter → ℕ → List Mark → List Section
left_of cutter end marks = sections_left cutter.number cutter.kind cutter.from end marks

-- closing what is open at a place and opening a kind there, before the later marks, leaves the other sections
abbrev pub Continues : Cutter → SectionKind → ℕ → ℕ → List Mark → List Mark → Type 0
Continues cutter kind at end marks later =
    left_of cutter end marks ≡ section cutter.number cutter.kind cutter.from at ∷ sections_left (cutter.number + 1) kind at end later

-- the closed sections with the open one closed at a place; more than a job may have aren't kept
abbrev pub closed_with : Cutter → ℕ → List Section
closed_with cutter at =
    if nat_le cutter.number MAX_SECTIONS then cutter.sections.items ++ section cutter.number cutter.kind cutter.from at ∷ []
    else cutter.sections.items

-- where marks are sought in a text: from a place on, or nowhere, where no header stands there
abbrev pub marks_begin : List ℕ → ℕ → ℕ
marks_begin text start = if begins_with_header (drop start text) then start else length text

-- all sections come of those that are closed and those that are left; more than a job may have aren't kept
pub record Leads (cutter : Cutter) (end : ℕ) (marks : List Mark) (whole : List Section) : Type 0 where
  pub count : cutter.number + length (left_of cutter end marks) ≡ length whole + 1
  pub list : cutter.number ≤ MAX_SECTIONS + 1 → cutter.sections.items ++ left_of cutter end marks ≡ whole

-- there are more sections than a job may have: prolog, setup, trailer and so many pages
abbrev pub IsTooMany : List Section → SplitError → Type 0
IsTooMany whole (TooManyPages count) = (length whole ≡ count + 3) × (MAX_SECTIONS < length whole)
IsTooMany whole NoMemory = Unit {0}
