-- How cutting a job begins, and how many sections and pages there are.
use Rattle.std.proofs.Common.{◌≡◌, ◌⊎◌, ℕ, ◌+◌, ◌-◌, ◌*◌, ◌≤◌, true, false, List, [], ◌∷◌, ◌++◌, length, take, drop, refl, sym, ap, subst, ◌∙◌, arith, ⊎_elim, length-drop}
use Rattle.std.specs.Prelude.{if◌then◌else◌, cond, Result, Ok, Err, IfOk, IfErr, OnOk, nat_eq, codes}
use Rattle.std.specs.List.{suffix_len, starts_with}
use Rattle.std.proofs.lemmas.Bool.{cases_Bool, cases_cond, cond-true, cond-false}
use Rattle.std.proofs.lemmas.List.{take_rest, length-take-le}
use Rattle.std.proofs.lemmas.List.Sums.{sum_by-cons, prefix_len-le-length, suffix_len-le-length}
use Rattle.ps_objects.specs.declared.section.SectionKind.TheVariants as kind
use Rattle.dsc_split.specs.declared.section.Section.{Section}
use Rattle.dsc_split.specs.declared.mark.Mark.{Mark}
use Rattle.dsc_split.specs.declared.mark.Mark.TheVariants.{EndProlog, Page, Trailer}
use Rattle.dsc_split.specs.declared.cutter.Cutter.{Cutter}
use Rattle.dsc_split.specs.declared.cutter.TheConstants.{MAX_SECTIONS, MAX_PAGES}
use Rattle.dsc_split.specs.declared.cutter.SplitError.{SplitError}
use Rattle.dsc_split.specs.declared.cutter.SplitError.TheVariants.{TooManyPages, NoMemory}
use Rattle.dsc_split.specs.Marks.{marks_from}
use Rattle.dsc_split.specs.Sections.{is_control_d, start_of, end_of, has_header, section, prolog_end, sections_at, part_end, pages_and_trailer, sections_of, is_page, page_count}
use Rattle.dsc_split.specs.Cuts.{marks_begin, sections_left, left_of, Leads, IsOrdered, IsTooMany, Refuses}
use Rattle.dsc_split.proofs.MarkLemmas.{marks_end}
use Rattle.dsc_split.proofs.OrderLemmas.{marks_from_ordered, marks_from_few, ordered_before}

pub headed : (job : List ℕ) → has_header job ≡ true
    → sections_of job ≡ sections_at (start_of job) (end_of job) (marks_from 0 (start_of job) (take (end_of job) job))
unfolding sections_of
headed job t = cond-true _ _ _ t

pub headless : (job : List ℕ) → has_header job ≡ false
    → sections_of job ≡ section 1 kind.Prolog (start_of job) (end_of job) ∷ section 2 kind.Setup (end_of job) (end_of job) ∷ section 3 kind.Trailer (end_of job) (end_of job) ∷ []
unfolding sections_of
headless job f = cond-false _ _ _ f

-- what is left at first are all sections
all_left : (job : List ℕ) (at : ℕ) → at ≡ (if has_header job then start_of job else length (take (end_of job) job))
    → sections_left 1 kind.Prolog (start_of job) (end_of job) (marks_from 0 at (take (end_of job) job)) ≡ sections_of job
unfolding sections_left pages_and_trailer
all_left job at e =
    let text = take (end_of job) job in
    let left : List Mark → List Section = sections_left 1 kind.Prolog (start_of job) (end_of job) in
    ⊎_elim
    (λ t. ap (λ k. left (marks_from 0 k text)) (e ∙ cond-true _ _ _ t) ∙ sym (headed job t))
    (λ f. ap (λ k. left (marks_from 0 k text)) (e ∙ cond-false _ _ _ f) ∙ ap left (marks_end 0 (length text) text (omega arith)) ∙ sym (headless job f))
    (cases_Bool (has_header job))

pub starts : (job : List ℕ) (cutter : Cutter) (at : ℕ) → at ≡ (if has_header job then start_of job else length (take (end_of job) job))
    → cutter.sections.items ≡ [] → cutter.number ≡ 1 → cutter.kind ≡ kind.Prolog → cutter.from ≡ start_of job
    → Leads cutter (end_of job) (marks_from 0 at (take (end_of job) job)) (sections_of job)
starts job cutter at e i n k f =
    let marks = marks_from 0 at (take (end_of job) job) in
    let same : left_of cutter (end_of job) marks ≡ sections_of job =
    ap (λ x. sections_left x cutter.kind cutter.from (end_of job) marks) n ∙ ap (λ x. sections_left 1 x cutter.from (end_of job) marks) k
    ∙ ap (λ x. sections_left 1 kind.Prolog x (end_of job) marks) f ∙ all_left job at e
    in
    record {
      count = omega (arith, n, ap length same);
      list = λ _. ap (λ x. x ++ left_of cutter (end_of job) marks) i ∙ same;
    }

pub page_count-cons : (s : Section) (sections : List Section) → page_count (s ∷ sections) ≡ cond (is_page s) 1 0 + page_count sections
page_count-cons s sections = sum_by-cons (λ x. cond (is_page x) 1 0) s sections

pages_length : (number end : ℕ) (marks : List Mark) → length (pages_and_trailer number end marks) ≡ page_count (pages_and_trailer number end marks) + 1
unfolding pages_and_trailer
pages_length number end [] = refl
pages_length number end (EndProlog to ∷ marks) = pages_length number end marks
pages_length number end (Page from ∷ marks) =
    omega (arith, pages_length (number + 1) end marks, page_count-cons (section number kind.Page from (part_end end marks)) (pages_and_trailer (number + 1) end marks))
pages_length number end (Trailer from ∷ marks) = refl

sections_at_length : (start end : ℕ) (marks : List Mark) → length (sections_at start end marks) ≡ page_count (sections_at start end marks) + 3
sections_at_length start end marks =
    let setup = section 2 kind.Setup (prolog_end end marks) (part_end end marks) in
    let pages = pages_and_trailer 3 end marks in
    omega (arith, pages_length 3 end marks, page_count-cons (section 1 kind.Prolog start (prolog_end end marks)) (setup ∷ pages), page_count-cons setup pages)

pub sections_length : (job : List ℕ) → length (sections_of job) ≡ page_count (sections_of job) + 3
sections_length job =
    let Holds : List Section → Type 0 = λ sections. length sections ≡ page_count sections + 3 in
    ⊎_elim
    (λ t. subst Holds (sym (headed job t)) (sections_at_length (start_of job) (end_of job) (marks_from 0 (start_of job) (take (end_of job) job))))
    (λ f. subst Holds (sym (headless job f)) refl)
    (cases_Bool (has_header job))

-- how cutting begins
pub record Begins (job : List ℕ) (cutter : Cutter) (end : ℕ) (marks : List Mark) : Type 0 where
  pub ordered : IsOrdered cutter.from end marks
  pub room : cutter.number + 2 * length marks ≤ 1000000000
  pub leads : Leads cutter end marks (sections_of job)

pub ends_within : (job : List ℕ) → (start_of job ≤ end_of job) × (end_of job ≤ length job)
ends_within job =
    let behind = drop (start_of job) job in
    (omega (arith, prefix_len-le-length is_control_d job, suffix_len-le-length is_control_d behind, length-drop (start_of job) job), omega arith)

begins_at : (job : List ℕ) (cutter : Cutter) (at : ℕ) → length job ≤ 268435456 → at ≡ (if has_header job then start_of job else length (take (end_of job) job))
    → cutter.sections.items ≡ [] → cutter.number ≡ 1 → cutter.kind ≡ kind.Prolog → cutter.from ≡ start_of job
    → Begins job cutter (end_of job) (marks_from 0 at (take (end_of job) job))
begins_at job cutter at short e i n k f =
    let text : List ℕ = take (end_of job) job in
    let within = ends_within job in
    let len : length text ≡ end_of job = length-take-le (end_of job) job within.1 in
    let place : (at ≡ start_of job) ⊎ (at ≡ length text) = cases_cond (has_header job) (start_of job) (length text) at e in
    let low : start_of job ≤ at = ⊎_elim (λ a. omega arith) (λ a. omega (arith, within.0)) place in
    let high : at ≤ length text = ⊎_elim (λ a. omega (arith, within.0)) (λ a. omega arith) place in
    record {
      ordered =
          let o = ordered_before cutter.from at (length text) (marks_from 0 at text) (omega (arith, f)) (marks_from_ordered 0 at text high) in
          subst (λ x. IsOrdered cutter.from x (marks_from 0 at text)) len o;
      room = omega (arith, n, within.1, len, marks_from_few 0 at text);
      leads = starts job cutter at e i n k f;
    }

pub begins : (job text : List ℕ) (cutter : Cutter) (start trailing depth at : ℕ) → length job ≤ 268435456 → start ≡ start_of job
    → trailing ≡ suffix_len is_control_d (take (length job - start) (drop start job)) → text ≡ take (length job - trailing) job
    → depth ≡ 0 → at ≡ marks_begin text start
    → cutter.sections.items ≡ [] → cutter.number ≡ 1 → cutter.kind ≡ kind.Prolog → cutter.from ≡ start
    → Begins job cutter (length job - trailing) (marks_from depth at text)
begins job text cutter start trailing depth at short s t x d e i n k f =
    let end_is : length job - trailing ≡ end_of job =
    ap (λ y. length job - y) (t ∙ ap (suffix_len is_control_d) (take_rest job start) ∙ ap (λ y. suffix_len is_control_d (drop y job)) s)
    in
    let text_is : text ≡ take (end_of job) job = x ∙ ap (λ y. take y job) end_is in
    let at_is : at ≡ (if has_header job then start_of job else length (take (end_of job) job)) =
    e ∙ ap (λ y. marks_begin y start) text_is
    ∙ ap (λ y. marks_begin (take (end_of job) job) y) s
    in
    subst (λ y. Begins job cutter y (marks_from depth at text)) (sym end_is)
    (subst (λ y. Begins job cutter (end_of job) (marks_from y at text)) (sym d)
    (subst (λ y. Begins job cutter (end_of job) (marks_from 0 at y)) (sym text_is)
    (begins_at job cutter at short at_is i n k (f ∙ s))))

pub few_pages : (result : Result (List Section) SplitError) (cutter : Cutter) (end : ℕ) (job : List ℕ)
    → IfOk result (λ sections. (whole : List Section) → Leads cutter end [] whole → (sections ≡ whole) × (length whole ≤ MAX_SECTIONS))
    → Leads cutter end [] (sections_of job) → OnOk result (page_count (sections_of job) ≤ MAX_PAGES)
few_pages (Ok sections) cutter end job h leads = omega (arith, (h (sections_of job) leads).1, sections_length job)
few_pages (Err error) cutter end job h leads = h

pub refused : (result : Result (List Section) SplitError) (cutter : Cutter) (end : ℕ) (job : List ℕ)
    → IfErr result (λ error. (whole : List Section) → Leads cutter end [] whole → IsTooMany whole error)
    → Leads cutter end [] (sections_of job) → IfErr result (Refuses job)
refused (Ok sections) cutter end job h leads = h
refused (Err (TooManyPages count)) cutter end job h leads =
    let many = h (sections_of job) leads in
    (omega (arith, many.0, sections_length job), omega (arith, many.0, many.1))
refused (Err NoMemory) cutter end job h leads = tt
