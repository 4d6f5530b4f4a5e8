use Rattle.std.proofs.Common.{◌≡◌, ◌≢◌, ◌∷◌, true, rules, sym, ap, subst, ◌∙◌}
use Rattle.ps_objects.specs.declared.section.SectionKind.TheVariants as kind
use Rattle.dsc_split.specs.declared.mark.Mark.TheVariants.{EndProlog, Page, Trailer}
use Rattle.dsc_split.specs.Cuts.{is_part, Leads}
use Rattle.dsc_split.proofs.CutLemmas.{prolog_place, part_after, leads_same, trailer_stays, page_continues_at, trailer_continues_at, part_stays_at}
use Rattle.dsc_split.proofs.cutter.Cutter.cut.Goals as goal

pub returns-then-eq-clause-leads : goal.returns-then-eq-clause-leads
returns-then-eq-clause-leads c =
    let trailer : c.args.self.now.kind ≡ kind.Trailer = search rules in
    λ end marks whole h. leads_same c.args.self.now end (c.args.mark ∷ marks) marks whole (trailer_stays c.args.self.now end (c.args.mark ∷ marks) marks trailer) h

pub returns-in-EndProlog-clause-leads : goal.returns-in-EndProlog-clause-leads
returns-in-EndProlog-clause-leads c =
    let other : c.args.self.now.kind ≢ kind.Trailer = search rules in
    let mid = c.end_prolog.new.self in
    let part : is_part mid.kind ≡ true = ap is_part c.in_ok-end_prolog.ensures.kind ∙ part_after c.args.self.now.kind other in
    λ end marks whole h.
    let h1 = c.in_ok-end_prolog.ensures.leads end (c.args.mark ∷ marks) whole (prolog_place end c.args.mark marks ∙ sym c.place.ensures) h in
    let h2 = subst (λ m. Leads mid end (m ∷ marks) whole) c.in-EndProlog.is h1 in
    leads_same mid end (EndProlog c.in-EndProlog.field-0 ∷ marks) marks whole (part_stays_at mid.number mid.from c.in-EndProlog.field-0 end mid.kind marks part) h2

pub returns-in_ok-open-in-Page-clause-leads : goal.returns-in_ok-open-in-Page-clause-leads
returns-in_ok-open-in-Page-clause-leads c =
    let other : c.args.self.now.kind ≢ kind.Trailer = search rules in
    let mid = c.end_prolog.new.self in
    let part : is_part mid.kind ≡ true = ap is_part c.in_ok-end_prolog.ensures.kind ∙ part_after c.args.self.now.kind other in
    λ end marks whole h.
    let h1 = c.in_ok-end_prolog.ensures.leads end (c.args.mark ∷ marks) whole (prolog_place end c.args.mark marks ∙ sym c.place.ensures) h in
    let h2 = subst (λ m. Leads mid end (m ∷ marks) whole) c.in-Page.is h1 in
    c.in_ok-open-in-Page.ensures.leads end (Page c.in-Page.from ∷ marks) marks whole (page_continues_at mid.number mid.from c.in-Page.from end mid.kind marks part) h2

pub returns-in_ok-open-in-Trailer-clause-leads : goal.returns-in_ok-open-in-Trailer-clause-leads
returns-in_ok-open-in-Trailer-clause-leads c =
    let other : c.args.self.now.kind ≢ kind.Trailer = search rules in
    let mid = c.end_prolog.new.self in
    let part : is_part mid.kind ≡ true = ap is_part c.in_ok-end_prolog.ensures.kind ∙ part_after c.args.self.now.kind other in
    λ end marks whole h.
    let h1 = c.in_ok-end_prolog.ensures.leads end (c.args.mark ∷ marks) whole (prolog_place end c.args.mark marks ∙ sym c.place.ensures) h in
    let h2 = subst (λ m. Leads mid end (m ∷ marks) whole) c.in-Trailer.is h1 in
    c.in_ok-open-in-Trailer.ensures.leads end (Trailer c.in-Trailer.from ∷ marks) marks whole (trailer_continues_at mid.number mid.from c.in-Trailer.from end mid.kind marks part) h2
