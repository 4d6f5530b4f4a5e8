-- The laws of the sections of a job.
use Rattle.std.proofs.Common.{◌≡◌, ℕ, zero, suc, ◌+◌, ◌-◌, ◌<◌, ◌≤◌, true, List, [], ◌∷◌, ◌++◌, length, take, drop, refl, sym, ap, subst, ◌∙◌, arith, ⊎_elim}
use Rattle.std.specs.Prelude.{map, All, replicate, nat_eq, Result, Ok, Err, IfOk}
use Rattle.std.specs.List.{slice_index_or, concat, starts_with}
use Rattle.std.proofs.lemmas.Bool.{cases_Bool, false≢true}
use Rattle.std.proofs.lemmas.List.{append-nil, length-take-le, drop-take}
use Rattle.std.proofs.lemmas.List.Elements.{All-cons}
use Rattle.ps_objects.specs.declared.section.SectionKind.TheVariants as kind
use Rattle.dsc_split.specs.declared.section.Section.{Section}
use Rattle.dsc_split.specs.declared.mark.Mark.{Mark}
use Rattle.dsc_split.specs.declared.mark.Mark.TheVariants.{EndProlog, Page, Trailer}
use Rattle.dsc_split.specs.declared.cutter.SplitError.{SplitError}
use Rattle.dsc_split.specs.Marks.{marks_from}
use Rattle.dsc_split.specs.Sections.{start_of, end_of, body_of, has_header, section, prolog_end, part_end, pages_and_trailer, sections_at, sections_of, text_of, is_page, page_count}
use Rattle.dsc_split.specs.Cuts.{IsOrdered}
use Rattle.dsc_split.specs.Law.{IsWhole, IsNumbered, HasItsKinds, IsPrologAlone, BeginsPages, StandsWithin}
use Rattle.dsc_split.proofs.OrderLemmas.{marks_from_ordered, ordered_end, part_bounds, prolog_bounds}
use Rattle.dsc_split.proofs.PieceLemmas.{piece, pieces_joined, piece_none, job_joined}
use Rattle.dsc_split.proofs.PageLemmas.{PagesBegin, page_name, pages_begin}
use Rattle.dsc_split.proofs.SectionLemmas.{headed, headless, ends_within, page_count-cons}

-- the marks of a job with a header
abbrev marks : List ℕ → List Mark
marks job = marks_from 0 (start_of job) (take (end_of job) job)

marks_in_order : (job : List ℕ) → IsOrdered (start_of job) (end_of job) (marks job)
marks_in_order job =
    let text : List ℕ = take (end_of job) job in
    let within = ends_within job in
    let len : length text ≡ end_of job = length-take-le (end_of job) job within.1 in
    subst (λ end. IsOrdered (start_of job) end (marks job)) len (marks_from_ordered 0 (start_of job) text (omega (arith, within.0)))

-- a fact of all sections, with a header and without
by_header : (job : List ℕ) (P : List Section → Type 0) → P (sections_at (start_of job) (end_of job) (marks job))
    → P (sections_at (start_of job) (end_of job) []) → P (sections_of job)
unfolding pages_and_trailer
by_header job P with_header without =
    ⊎_elim (λ t. subst P (sym (headed job t)) with_header) (λ f. subst P (sym (headless job f)) without) (cases_Bool (has_header job))

pages_whole : (job : List ℕ) (number from end : ℕ) (marks : List Mark) → IsOrdered from end marks
    → concat (map (text_of job) (pages_and_trailer number end marks)) ≡ piece job (part_end end marks) end
unfolding pages_and_trailer
pages_whole job number from end [] o = append-nil (piece job end end)
pages_whole job number from end (EndProlog to ∷ marks) o = pages_whole job number to end marks o.1
pages_whole job number from end (Page at ∷ marks) o =
    let bounds = part_bounds at end marks o.1 in
    ap (λ x. piece job at (part_end end marks) ++ x) (pages_whole job (number + 1) at end marks o.1) ∙ pieces_joined job at (part_end end marks) end bounds.0 bounds.1
pages_whole job number from end (Trailer at ∷ marks) o = append-nil (piece job at end)

whole_at : (job : List ℕ) (start end : ℕ) (marks : List Mark) → IsOrdered start end marks
    → concat (map (text_of job) (sections_at start end marks)) ≡ piece job start end
whole_at job start end marks o =
    let prolog = prolog_bounds start end marks o in
    let part = part_bounds start end marks o in
    let pages = pages_whole job 3 start end marks o in
    ap (λ x. piece job start (prolog_end end marks) ++ (piece job (prolog_end end marks) (part_end end marks) ++ x)) pages
    ∙ ap (λ x. piece job start (prolog_end end marks) ++ x) (pieces_joined job (prolog_end end marks) (part_end end marks) end prolog.1 part.1)
    ∙ pieces_joined job start (prolog_end end marks) end prolog.0 (omega (arith, prolog.1, part.1))

pub whole : (job : List ℕ) → IsWhole job
whole job =
    let Holds : List Section → Type 0 = λ sections. concat (map (text_of job) sections) ≡ piece job (start_of job) (end_of job) in
    let within = ends_within job in
    let joined : Holds (sections_of job) = by_header job Holds
    (whole_at job (start_of job) (end_of job) (marks job) (marks_in_order job))
    (whole_at job (start_of job) (end_of job) [] within.0)
    in
    ap (λ x. replicate (start_of job) 4 ++ x ++ replicate (length job - end_of job) 4) joined ∙ job_joined job within.0

-- numbered from a number on
abbrev NumberedFrom : ℕ → List Section → Type 0
NumberedFrom first sections = (k : ℕ) (other : Section) → k < length sections → (slice_index_or sections k other).number ≡ first + k

numbered-cons : (first : ℕ) (s : Section) (sections : List Section) → s.number ≡ first → NumberedFrom (first + 1) sections → NumberedFrom first (s ∷ sections)
numbered-cons first s sections h later zero other lt = omega (arith, h)
numbered-cons first s sections h later (suc k) other lt = omega (arith, later k other (omega arith))

numbered-nil : (first : ℕ) → NumberedFrom first []
numbered-nil first k other lt = absurd (omega arith)

pages_numbered : (number end : ℕ) (marks : List Mark) → NumberedFrom number (pages_and_trailer number end marks)
unfolding pages_and_trailer
pages_numbered number end [] = numbered-cons number (section number kind.Trailer end end) [] refl (numbered-nil (number + 1))
pages_numbered number end (EndProlog to ∷ marks) = pages_numbered number end marks
pages_numbered number end (Page at ∷ marks) =
    numbered-cons number (section number kind.Page at (part_end end marks)) (pages_and_trailer (number + 1) end marks) refl (pages_numbered (number + 1) end marks)
pages_numbered number end (Trailer at ∷ marks) = numbered-cons number (section number kind.Trailer at end) [] refl (numbered-nil (number + 1))

numbered_at : (start end : ℕ) (marks : List Mark) → NumberedFrom 1 (sections_at start end marks)
numbered_at start end marks =
    let setup = section 2 kind.Setup (prolog_end end marks) (part_end end marks) in
    let pages = pages_and_trailer 3 end marks in
    numbered-cons 1 (section 1 kind.Prolog start (prolog_end end marks)) (setup ∷ pages) refl (numbered-cons 2 setup pages refl (pages_numbered 3 end marks))

pub numbered : (job : List ℕ) → IsNumbered job
numbered job k other lt =
    let from_one = by_header job (NumberedFrom 1) (numbered_at (start_of job) (end_of job) (marks job)) (numbered_at (start_of job) (end_of job) []) in
    omega (arith, from_one k other lt)

-- pages, and the trailer
abbrev EndsAsTrailer : List Section → Type 0
EndsAsTrailer sections = map (λ s. s.kind) sections ≡ replicate (page_count sections) kind.Page ++ kind.Trailer ∷ []

pages_kinds : (number end : ℕ) (marks : List Mark) → EndsAsTrailer (pages_and_trailer number end marks)
unfolding pages_and_trailer
pages_kinds number end [] = refl
pages_kinds number end (EndProlog to ∷ marks) = pages_kinds number end marks
pages_kinds number end (Page at ∷ marks) =
    let page = section number kind.Page at (part_end end marks) in
    let later = pages_and_trailer (number + 1) end marks in
    let count : page_count (page ∷ later) ≡ suc (page_count later) = omega (arith, page_count-cons page later) in
    ap (λ x. kind.Page ∷ x) (pages_kinds (number + 1) end marks) ∙ ap (λ n. replicate n kind.Page ++ kind.Trailer ∷ []) (sym count)
pages_kinds number end (Trailer at ∷ marks) = refl

abbrev HasKinds : List Section → Type 0
HasKinds sections = map (λ s. s.kind) sections ≡ kind.Prolog ∷ kind.Setup ∷ (replicate (page_count sections) kind.Page ++ kind.Trailer ∷ [])

kinds_at : (start end : ℕ) (marks : List Mark) → HasKinds (sections_at start end marks)
kinds_at start end marks =
    let prolog = section 1 kind.Prolog start (prolog_end end marks) in
    let setup = section 2 kind.Setup (prolog_end end marks) (part_end end marks) in
    let pages = pages_and_trailer 3 end marks in
    let count : page_count pages ≡ page_count (prolog ∷ setup ∷ pages) = omega (arith, page_count-cons prolog (setup ∷ pages), page_count-cons setup pages) in
    ap (λ x. kind.Prolog ∷ kind.Setup ∷ x) (pages_kinds 3 end marks ∙ ap (λ n. replicate n kind.Page ++ kind.Trailer ∷ []) count)

pub kinds : (job : List ℕ) → HasItsKinds job
kinds job = by_header job HasKinds (kinds_at (start_of job) (end_of job) (marks job)) (kinds_at (start_of job) (end_of job) [])

pub prolog_alone : (job : List ℕ) → IsPrologAlone job
prolog_alone job f =
    let start = start_of job in
    let end = end_of job in
    let within = ends_within job in
    let count : end ≡ start + (end - start) = omega (arith, within.0) in
    let body_is : piece job start end ≡ body_of job = sym (ap (λ k. drop start (take k job)) count ∙ drop-take start (end - start) job) in
    ap (map (text_of job)) (headless job f)
    ∙ ap (λ x. x ∷ piece job end end ∷ piece job end end ∷ []) body_is
    ∙ ap (λ x. body_of job ∷ x ∷ x ∷ []) (piece_none job end)

-- pages begin with their line
abbrev IsBegun : List ℕ → Section → Type 0
IsBegun job s = is_page s ≡ true → starts_with nat_eq (text_of job s) page_name ≡ true

pages_begun : (job : List ℕ) (number end : ℕ) (marks : List Mark) → PagesBegin job end marks → All (IsBegun job) (pages_and_trailer number end marks)
unfolding pages_and_trailer
pages_begun job number end [] h = All-cons (IsBegun job) (section number kind.Trailer end end) [] (λ no. absurd (false≢true no)) (λ k d lt. absurd (omega arith))
pages_begun job number end (EndProlog to ∷ marks) h = pages_begun job number end marks h
pages_begun job number end (Page at ∷ marks) h =
    All-cons (IsBegun job) (section number kind.Page at (part_end end marks)) (pages_and_trailer (number + 1) end marks) (λ _. h.0) (pages_begun job (number + 1) end marks h.1)
pages_begun job number end (Trailer at ∷ marks) h = All-cons (IsBegun job) (section number kind.Trailer at end) [] (λ no. absurd (false≢true no)) (λ k d lt. absurd (omega arith))

begun_at : (job : List ℕ) (start end : ℕ) (marks : List Mark) → PagesBegin job end marks → All (IsBegun job) (sections_at start end marks)
begun_at job start end marks h =
    let setup = section 2 kind.Setup (prolog_end end marks) (part_end end marks) in
    let pages = pages_and_trailer 3 end marks in
    All-cons (IsBegun job) (section 1 kind.Prolog start (prolog_end end marks)) (setup ∷ pages) (λ no. absurd (false≢true no))
    (All-cons (IsBegun job) setup pages (λ no. absurd (false≢true no)) (pages_begun job 3 end marks h))

pub begun : (job : List ℕ) → BeginsPages job
begun job =
    let within = ends_within job in
    by_header job (All (IsBegun job))
    (begun_at job (start_of job) (end_of job) (marks job) (pages_begin job 0 (start_of job) (end_of job) within.0 within.1))
    (begun_at job (start_of job) (end_of job) [] tt)

-- each section stands within the job
abbrev IsWithin : List ℕ → Section → Type 0
IsWithin job s = s.from + s.len ≤ length job

pages_within : (job : List ℕ) (number from end : ℕ) (marks : List Mark) → end ≤ length job → IsOrdered from end marks → All (IsWithin job) (pages_and_trailer number end marks)
unfolding pages_and_trailer
pages_within job number from end [] h o = All-cons (IsWithin job) (section number kind.Trailer end end) [] (omega arith) (λ k d lt. absurd (omega arith))
pages_within job number from end (EndProlog to ∷ marks) h o = pages_within job number to end marks h o.1
pages_within job number from end (Page at ∷ marks) h o =
    let bounds = part_bounds at end marks o.1 in
    All-cons (IsWithin job) (section number kind.Page at (part_end end marks)) (pages_and_trailer (number + 1) end marks) (omega (arith, bounds.0, bounds.1)) (pages_within job (number + 1) at end marks h o.1)
pages_within job number from end (Trailer at ∷ marks) h o =
    All-cons (IsWithin job) (section number kind.Trailer at end) [] (omega (arith, ordered_end at end marks o.1)) (λ k d lt. absurd (omega arith))

within_at : (job : List ℕ) (start end : ℕ) (marks : List Mark) → end ≤ length job → IsOrdered start end marks → All (IsWithin job) (sections_at start end marks)
within_at job start end marks h o =
    let prolog = prolog_bounds start end marks o in
    let part = part_bounds start end marks o in
    let setup = section 2 kind.Setup (prolog_end end marks) (part_end end marks) in
    let pages = pages_and_trailer 3 end marks in
    All-cons (IsWithin job) (section 1 kind.Prolog start (prolog_end end marks)) (setup ∷ pages) (omega (arith, prolog.0, prolog.1, part.1))
    (All-cons (IsWithin job) setup pages (omega (arith, prolog.1, part.1)) (pages_within job 3 start end marks h o))

pub stands_within : (job : List ℕ) → StandsWithin job (sections_of job)
stands_within job =
    let within = ends_within job in
    by_header job (All (IsWithin job))
    (within_at job (start_of job) (end_of job) (marks job) within.1 (marks_in_order job))
    (within_at job (start_of job) (end_of job) [] within.1 within.0)

pub split_within : (result : Result (List Section) SplitError) (job : List ℕ) → IfOk result (λ sections. sections ≡ sections_of job) → IfOk result (StandsWithin job)
split_within (Ok sections) job h = subst (StandsWithin job) (sym h) (stands_within job)
split_within (Err error) job h = h
