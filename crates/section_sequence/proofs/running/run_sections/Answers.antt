-- What is left leads to the whole.
use Rattle.std.proofs.Common.{◌≡◌, ◌≤◌, ◌+◌, drop, slice_index_or, refl, sym, subst, le_refl, rules}
use Rattle.std.proofs.lemmas.List.{drop_more}
use Rattle.ps_objects.specs.declared.section.SectionKind.TheVariants.{Prolog}
use Rattle.dsc_split.specs.declared.section.Section.{Section}
use Rattle.section_sequence.specs.Running.{sections_from}
use Rattle.section_sequence.specs.Sequence.{job_of}
use Rattle.section_sequence.proofs.Standing.{Stands, stands_first, first_may, stands_on, cut_off, refused}
use Rattle.section_sequence.proofs.running.run_sections.Goals as goal

abbrev other : Section
other = record { number = 0; kind = Prolog; from = 0; len = 0 }

pub loop-section-init : goal.loop-section-init
loop-section-init g c =
    let J = job_of g.T.Operators.table c.args.job.now.settings.now c.args.job.now.moment c.args.job.now.text.now in
    let e : c.new-counter.result.out.now ≡ c.args.out.now = λ i. (c.new-counter.ensures.out i).now in
    record {
      counted = subst (λ o. g.O.Outlet.faults c.args.out.now ≤ g.O.Outlet.faults o) (sym e) (le_refl _);
      same = refl;
      stands = stands_first g.O.Outlet.since g.met.O.Outlet.nothing J c.args.sections.now _ (g.M.Mem.log c.args.mem.now).view c.new-counter.result c.args.out.now refl c.new-counter.ensures.shown e c.requires.may_run;
    }

pub go_on-requires-clause-may_run : goal.go_on-requires-clause-may_run
go_on-requires-clause-may_run g c =
    let J = job_of g.T.Operators.table c.args.job.now.settings.now c.args.job.now.moment c.args.job.now.text.now in
    let M = (g.M.Mem.log c.args.mem.now).view in
    let xs = c.args.sections.now in
    let k = c.loop-section.section-index in
    let whole = sections_from g.T.Operators.table c.args.job.now.settings.now c.args.job.now.moment c.args.job.now.text.now xs c.args.regs M in
    let N = (g.M.Mem.log c.loop-section.mem).view in
    let x = slice_index_or xs k other in
    let s = subst (λ l. Stands g.O.Outlet.since J whole l c.loop-section.ran N c.loop-section.counter c.args.out.now) (drop_more xs k other c.loop-section-test.true) c.loop-section.invariant.stands in
    (first_may g.O.Outlet.since g.O.Outlet.cut J g.met.T.Operators.lawful whole c.args.out.now x (drop (k + 1) xs) c.loop-section.ran N c.loop-section.counter s).1

pub returns-in_err-ran-clause-cut : goal.returns-in_err-ran-clause-cut
returns-in_err-ran-clause-cut g c =
    let J = job_of g.T.Operators.table c.args.job.now.settings.now c.args.job.now.moment c.args.job.now.text.now in
    let M = (g.M.Mem.log c.args.mem.now).view in
    let xs = c.args.sections.now in
    let k = c.loop-section.section-index in
    let whole = sections_from g.T.Operators.table c.args.job.now.settings.now c.args.job.now.moment c.args.job.now.text.now xs c.args.regs M in
    let N = (g.M.Mem.log c.loop-section.mem).view in
    let x = slice_index_or xs k other in
    let s = subst (λ l. Stands g.O.Outlet.since J whole l c.loop-section.ran N c.loop-section.counter c.args.out.now) (drop_more xs k other c.loop-section-test.true) c.loop-section.invariant.stands in
    refused c.from_residual.result _
    (subst (λ o. g.O.Outlet.cut o c.args.out.now whole.papers whole.text) (search rules)
    (cut_off g.O.Outlet.since g.O.Outlet.cut J g.met.T.Operators.lawful whole c.args.out.now x (drop (k + 1) xs) c.loop-section.ran N c.loop-section.counter s
    g.met.O.Outlet.joined_cut g.met.O.Outlet.longer c.go_on.new.out (c.in_err-ran.ensures.runs s.end s.ends)))

pub loop-section-preserved : goal.loop-section-preserved
loop-section-preserved g c =
    let J = job_of g.T.Operators.table c.args.job.now.settings.now c.args.job.now.moment c.args.job.now.text.now in
    let M = (g.M.Mem.log c.args.mem.now).view in
    let xs = c.args.sections.now in
    let k = c.loop-section.section-index in
    let whole = sections_from g.T.Operators.table c.args.job.now.settings.now c.args.job.now.moment c.args.job.now.text.now xs c.args.regs M in
    let N = (g.M.Mem.log c.loop-section.mem).view in
    let x = slice_index_or xs k other in
    let s = subst (λ l. Stands g.O.Outlet.since J whole l c.loop-section.ran N c.loop-section.counter c.args.out.now) (drop_more xs k other c.loop-section-test.true) c.loop-section.invariant.stands in
    record {
      counted = search rules;
      same = search rules;
      stands = stands_on g.O.Outlet.since g.O.Outlet.cut J g.met.T.Operators.lawful whole c.args.out.now x (drop (k + 1) xs) c.loop-section.ran N c.loop-section.counter s
          g.met.O.Outlet.joined c.in_ok-ran.ran (g.M.Mem.log c.go_on.new.mem).view c.go_on.new.out (c.in_ok-ran.ensures.runs s.end s.ends);
    }
