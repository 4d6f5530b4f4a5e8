use Rattle.std.proofs.Common.{◌≡◌, ◌+◌, length, refl, sym, subst, ◌∙◌, arith}
use Rattle.ps_execution.specs.Gather.{gather}
use Rattle.ps_gather.specs.Ended.{Leads}
use Rattle.ps_gather.specs.Gathered.{IsGathered, unpaid, Steps, ends_with}
use Rattle.ps_gather.proofs.Steps.{begun_gathered, left_first, left_on, left_ends, left_none}
use Rattle.ps_gather.proofs.scanning.scan.Goals as goal

pub loop-token-init : goal.loop-token-init
loop-token-init g c =
    let log = g.M.Mem.log in
    record {
      leads = left_first c.args.bytes.now c.args.state.now c.args.place (log c.args.mem.now) c.begun-gathering.result c.begun-gathering.ensures;
      gathered = begun_gathered c.args.state.now c.begun-gathering.result c.begun-gathering.ensures c.requires.ready.state.budget.units;
      within = c.requires.place;
      view = refl;
    }

pub loop-token-preserved : goal.loop-token-preserved
loop-token-preserved g c =
    let log = g.M.Mem.log in
    let s = c.args.state.now in
    let bytes = c.args.bytes.now in
    let l = c.loop-token in
    record {
      leads = left_on bytes s l._token l.at c.in_ok-spelt.next l.gathering c.step.new.gathering (log c.args.mem.now) (log l.mem) (log c.step.new.mem) (gather bytes c.args.place s) c.loop-token-test.true l.invariant.leads
          (subst (λ x. Steps bytes l.at s l.gathering (log l.mem) x c.in_ok-spelt.next c.step.new.gathering (log c.step.new.mem)) c.in-None.is c.in_ok-spelt.ensures.goes);
      gathered = subst (λ x. IsGathered s.kind (unpaid x) c.step.new.gathering) c.in-None.is c.in_ok-spelt.ensures.kept;
      within = c.in_ok-spelt.ensures.within;
      view = c.in_ok-spelt.ensures.view ∙ l.invariant.view;
    }

pub returns-in-Some-clause-scans : goal.returns-in-Some-clause-scans
returns-in-Some-clause-scans g c =
    let log = g.M.Mem.log in
    let s = c.args.state.now in
    let bytes = c.args.bytes.now in
    let l = c.loop-token in
    subst (λ d. Leads (gather bytes c.args.place s) (log c.args.mem.now) (ends_with s d) (log c.step.new.mem)) (sym c.scanned.ensures)
    (left_ends bytes s l._token l.at c.in_ok-spelt.next l.gathering c.step.new.gathering c.in-Some.spelt (log c.args.mem.now) (log l.mem) (log c.step.new.mem) (gather bytes c.args.place s) c.loop-token-test.true l.invariant.leads
    (subst (λ x. Steps bytes l.at s l.gathering (log l.mem) x c.in_ok-spelt.next c.step.new.gathering (log c.step.new.mem)) c.in-Some.is c.in_ok-spelt.ensures.goes))

pub returns-clause-scans : goal.returns-clause-scans
returns-clause-scans g c =
    let log = g.M.Mem.log in
    let s = c.args.state.now in
    let bytes = c.args.bytes.now in
    let l = c.loop-token in
    let spent : l._token ≡ length bytes + 1 = omega arith in
    subst (λ d. Leads (gather bytes c.args.place s) (log c.args.mem.now) (ends_with s d) (log l.mem)) (sym c.scanned-2.ensures)
    (left_none bytes s l._token l.at l.gathering (log c.args.mem.now) (log l.mem) (gather bytes c.args.place s) spent l.invariant.leads)
