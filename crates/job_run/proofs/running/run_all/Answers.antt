-- The sections come to the job's progress.
use Rattle.std.proofs.Common.{[]}
use Rattle.ps_machine.proofs.Advancing.{cut_at_once, refused}
use Rattle.job_run.specs.Sequence.{progress_by}
use Rattle.job_run.proofs.Starting.{may_run}
use Rattle.job_run.proofs.running.run_all.Goals as goal

pub returns-in_err-mem-clause-cut : goal.returns-in_err-mem-clause-cut
returns-in_err-mem-clause-cut g c =
    let o = c.args.out.now in
    let p = progress_by g.T.Operators.table c.args.job.now in
    refused c.from_residual.result _ (cut_at_once g.O.Outlet.cut g.met.O.Outlet.longer o p.papers p.text (g.met.O.Outlet.whole o o [] [] (g.met.O.Outlet.nothing o)))

pub returns-in_err-regs-clause-cut : goal.returns-in_err-regs-clause-cut
returns-in_err-regs-clause-cut g c =
    let o = c.args.out.now in
    let p = progress_by g.T.Operators.table c.args.job.now in
    refused c.from_residual-in_err-regs.result _ (cut_at_once g.O.Outlet.cut g.met.O.Outlet.longer o p.papers p.text (g.met.O.Outlet.whole o o [] [] (g.met.O.Outlet.nothing o)))

pub run_sections-requires-clause-may_run : goal.run_sections-requires-clause-may_run
run_sections-requires-clause-may_run g c =
    may_run c.args.job.now.settings.now c.args.job.now.text.now c.args.sections.now c.in_ok-regs.regs (g.M.Mem.log c.in_ok-mem.mem).view c.requires.all c.in_ok-regs.ensures c.in_ok-mem.ensures
