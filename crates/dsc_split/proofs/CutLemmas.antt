-- How the sections of a job come of those that are closed.
use Rattle.std.proofs.Common.{◌≡◌, ℕ, ◌+◌, ◌≤◌, true, List, [], ◌∷◌, ◌++◌, length, refl, sym, ap, ◌∙◌, arith, append_assoc}
use Rattle.std.specs.Prelude.{if◌then◌else◌, nat_le}
use Rattle.std.proofs.lemmas.Bool.{cond-true, le-leb, false≢true}
use Rattle.ps_objects.specs.declared.section.SectionKind.{SectionKind}
use Rattle.ps_objects.specs.declared.section.SectionKind.TheVariants as kind
use Rattle.dsc_split.specs.declared.section.Section.{Section}
use Rattle.dsc_split.specs.declared.mark.Mark.{Mark}
use Rattle.dsc_split.specs.declared.mark.Mark.TheVariants.{EndProlog, Page, Trailer}
use Rattle.dsc_split.specs.declared.cutter.Cutter.{Cutter}
use Rattle.dsc_split.specs.declared.cutter.TheConstants.{MAX_SECTIONS}
use Rattle.dsc_split.specs.Sections.{section, prolog_end, pages_and_trailer}
use Rattle.dsc_split.specs.Cuts.{is_part, after_prolog, place_of, sections_left, left_of, Continues, Leads}

-- a section is closed, and another opened
pub leads_on : (old new : Cutter) (kind : SectionKind) (at end : ℕ) (marks later : List Mark) (whole : List Section)
    → new.sections.items ≡ (if nat_le old.number MAX_SECTIONS then old.sections.items ++ section old.number old.kind old.from at ∷ [] else old.sections.items)
    → new.number ≡ old.number + 1 → new.kind ≡ kind → new.from ≡ at
    → Continues old kind at end marks later → Leads old end marks whole → Leads new end later whole
leads_on old new kind at end marks later whole kept n k a step h =
    let others : List Section = sections_left (old.number + 1) kind at end later in
    let same : left_of new end later ≡ others =
    ap (λ x. sections_left x new.kind new.from end later) n ∙ ap (λ x. sections_left (old.number + 1) x new.from end later) k
    ∙ ap (λ x. sections_left (old.number + 1) kind x end later) a
    in
    record {
      count = omega (arith, n, h.count, ap length step, ap length same);
      list = λ few.
          let within : nat_le old.number MAX_SECTIONS ≡ true = le-leb _ _ (omega (arith, n, few)) in
          ap (λ x. new.sections.items ++ x) same
          ∙ ap (λ x. x ++ others) (kept ∙ cond-true _ _ _ within)
          ∙ append_assoc old.sections.items (section old.number old.kind old.from at ∷ []) others
          ∙ ap (λ x. old.sections.items ++ x) (sym step)
          ∙ h.list (omega (arith, n, few));
    }

-- nothing is lost where the prolog ends
pub prolog_continues : (cutter : Cutter) (at end : ℕ) (marks : List Mark) → cutter.kind ≡ kind.Prolog → prolog_end end marks ≡ at
    → Continues cutter kind.Setup at end marks marks
unfolding sections_left
prolog_continues cutter at end marks k a =
    ap (λ x. sections_left cutter.number x cutter.from end marks) k
    ∙ ap (λ x. section cutter.number kind.Prolog cutter.from x ∷ sections_left (cutter.number + 1) kind.Setup x end marks) a
    ∙ ap (λ x. section cutter.number x cutter.from at ∷ sections_left (cutter.number + 1) kind.Setup at end marks) (sym k)

-- where a mark is the first, the prolog ends at its place
pub prolog_place : (end : ℕ) (mark : Mark) (marks : List Mark) → prolog_end end (mark ∷ marks) ≡ place_of mark
prolog_place end (EndProlog to) marks = refl
prolog_place end (Page from) marks = refl
prolog_place end (Trailer from) marks = refl

-- what isn't the trailer is a part once the prolog is closed
pub part_after : (open_kind : SectionKind) → ¬ (open_kind ≡ kind.Trailer) → is_part (after_prolog open_kind) ≡ true
part_after kind.Prolog h = refl
part_after kind.Setup h = refl
part_after kind.Page h = refl
part_after kind.Trailer h = absurd (h refl)

pub part_else : (open_kind : SectionKind) → ¬ (open_kind ≡ kind.Prolog) → ¬ (open_kind ≡ kind.Trailer) → is_part open_kind ≡ true
part_else kind.Prolog p h = absurd (p refl)
part_else kind.Setup p h = refl
part_else kind.Page p h = refl
part_else kind.Trailer p h = absurd (h refl)

-- the same sections are left
pub leads_same : (cutter : Cutter) (end : ℕ) (marks later : List Mark) (whole : List Section) → left_of cutter end marks ≡ left_of cutter end later
    → Leads cutter end marks whole → Leads cutter end later whole
leads_same cutter end marks later whole same h = record {
  count = omega (arith, h.count, ap length same);
  list = λ few. ap (λ x. cutter.sections.items ++ x) (sym same) ∙ h.list few;
}

pub trailer_stays : (cutter : Cutter) (end : ℕ) (marks later : List Mark) → cutter.kind ≡ kind.Trailer → left_of cutter end marks ≡ left_of cutter end later
unfolding sections_left
trailer_stays cutter end marks later k =
    ap (λ x. sections_left cutter.number x cutter.from end marks) k ∙ ap (λ x. sections_left cutter.number x cutter.from end later) (sym k)

-- the trailer is closed
pub closes : (old new : Cutter) (end : ℕ) (whole : List Section) → old.kind ≡ kind.Trailer
    → new.sections.items ≡ (if nat_le old.number MAX_SECTIONS then old.sections.items ++ section old.number old.kind old.from end ∷ [] else old.sections.items)
    → new.number ≡ old.number → Leads old end [] whole
    → (length whole ≡ new.number) × (new.number ≤ MAX_SECTIONS → new.sections.items ≡ whole)
unfolding sections_left
closes old new end whole k kept n h =
    let last : left_of old end [] ≡ section old.number old.kind old.from end ∷ [] =
    ap (λ x. sections_left old.number x old.from end []) k ∙ ap (λ x. section old.number x old.from end ∷ []) (sym k)
    in (
      omega (arith, n, h.count, ap length last),
      λ few.
          let within : nat_le old.number MAX_SECTIONS ≡ true = le-leb _ _ (omega (arith, n, few)) in
          kept ∙ cond-true _ _ _ within ∙ ap (λ x. old.sections.items ++ x) (sym last) ∙ h.list (omega (arith, n, few)),
    )

-- a page or the trailer begins
pub page_continues_at : (number from at end : ℕ) (open_kind : SectionKind) (marks : List Mark) → is_part open_kind ≡ true
    → sections_left number open_kind from end (Page at ∷ marks) ≡ section number open_kind from at ∷ sections_left (number + 1) kind.Page at end marks
unfolding sections_left pages_and_trailer
page_continues_at number from at end kind.Prolog marks p = absurd (false≢true p)
page_continues_at number from at end kind.Setup marks p = refl
page_continues_at number from at end kind.Page marks p = refl
page_continues_at number from at end kind.Trailer marks p = absurd (false≢true p)

pub trailer_continues_at : (number from at end : ℕ) (open_kind : SectionKind) (marks : List Mark) → is_part open_kind ≡ true
    → sections_left number open_kind from end (Trailer at ∷ marks) ≡ section number open_kind from at ∷ sections_left (number + 1) kind.Trailer at end marks
unfolding sections_left pages_and_trailer
trailer_continues_at number from at end kind.Prolog marks p = absurd (false≢true p)
trailer_continues_at number from at end kind.Setup marks p = refl
trailer_continues_at number from at end kind.Page marks p = refl
trailer_continues_at number from at end kind.Trailer marks p = absurd (false≢true p)

-- at the end the trailer begins
pub end_continues_at : (number from end : ℕ) (open_kind : SectionKind) → is_part open_kind ≡ true
    → sections_left number open_kind from end [] ≡ section number open_kind from end ∷ sections_left (number + 1) kind.Trailer end end []
unfolding sections_left pages_and_trailer
end_continues_at number from end kind.Prolog p = absurd (false≢true p)
end_continues_at number from end kind.Setup p = refl
end_continues_at number from end kind.Page p = refl
end_continues_at number from end kind.Trailer p = absurd (false≢true p)

-- `%%EndProlog` cuts no part, and nothing cuts the trailer
pub part_stays_at : (number from to end : ℕ) (open_kind : SectionKind) (marks : List Mark) → is_part open_kind ≡ true
    → sections_left number open_kind from end (EndProlog to ∷ marks) ≡ sections_left number open_kind from end marks
unfolding sections_left pages_and_trailer
part_stays_at number from to end kind.Prolog marks p = absurd (false≢true p)
part_stays_at number from to end kind.Setup marks p = refl
part_stays_at number from to end kind.Page marks p = refl
part_stays_at number from to end kind.Trailer marks p = absurd (false≢true p)
