use Rattle.std.proofs.Common.{◌≡◌, ◌-◌, length, take, refl, sym, ap, subst, arith}
use Rattle.dsc_split.specs.Sections.{sections_of}
use Rattle.dsc_split.specs.Cuts.{place_of, IsOrdered, Leads}
use Rattle.dsc_split.specs.Marks.{marks_from}
use Rattle.dsc_split.proofs.OrderLemmas.{ordered_before}
use Rattle.dsc_split.proofs.SectionLemmas.{Begins, begins, few_pages, refused}
use Rattle.dsc_split.proofs.cutter.split.Goals as goal

pub loop-mark-init : goal.loop-mark-init
loop-mark-init c =
    let marks = c.marks_of_job-mark-items in
    let same : c.into_iter-mark-iterator.result ≡ marks.result = c.into_iter-mark-iterator.ensures.into_iter_gives in
    let job = c.args.job.now in
    let end = length job - c.trailing_len.result in
    let first = begins job (take end job) c.new-cutter.result c.start_of-start.result c.trailing_len.result marks.result.depth marks.result.at
    c.requires c.start_of-start.ensures.value c.trailing_len.ensures.value refl marks.ensures.depth marks.ensures.at
    c.new-cutter.ensures.sections c.new-cutter.ensures.number c.new-cutter.ensures.kind c.new-cutter.ensures.from
    in
    let moved = subst (λ text. Begins job c.new-cutter.result end (marks_from marks.result.depth marks.result.at text)) (sym marks.ensures.job) first in
    let begun = subst (λ m. Begins job c.new-cutter.result end (marks_from m.depth m.at m.job.now)) (sym same) moved in
    (tt, tt, begun.ordered, begun.room, begun.leads)

pub loop-mark-preserved : goal.loop-mark-preserved
loop-mark-preserved c =
    let end = length c.args.job.now - c.trailing_len.result in
    let whole = sections_of c.args.job.now in
    let later = marks_from c.next.new.self.depth c.next.new.self.at c.next.new.self.job.now in
    let step = c.in-Some.ensures.steps in
    let kept = c.loop-mark.invariant in
    let ordered = subst (λ marks. IsOrdered c.loop-mark.cutter.from end marks) step kept.2 in
    let leads = subst (λ marks. Leads c.loop-mark.cutter end marks whole) step kept.4 in (
      tt,
      tt,
      ordered_before c.cut.new.self.from (place_of c.in-Some.mark) end later c.in_ok-cut.ensures.from ordered.1,
      omega (arith, ap length step, c.in_ok-cut.ensures.number, kept.3),
      c.in_ok-cut.ensures.leads end later whole leads,
    )

pub returns-clause-few : goal.returns-clause-few
returns-clause-few c =
    let end = length c.args.job.now - c.trailing_len.result in
    let leads = subst (λ marks. Leads c.loop-mark.cutter end marks (sections_of c.args.job.now)) c.in-None.ensures.steps.0 c.loop-mark.invariant.4 in
    few_pages c.finish.result c.loop-mark.cutter end c.args.job.now c.finish.ensures.ok leads

pub returns-clause-refused : goal.returns-clause-refused
returns-clause-refused c =
    let end = length c.args.job.now - c.trailing_len.result in
    let leads = subst (λ marks. Leads c.loop-mark.cutter end marks (sections_of c.args.job.now)) c.in-None.ensures.steps.0 c.loop-mark.invariant.4 in
    refused c.finish.result c.loop-mark.cutter end c.args.job.now c.finish.ensures.err leads
