-- A section runs after one that ran through; after another end nothing runs.
use Rattle.std.proofs.Common.{rules}
use Rattle.section_sequence.specs.Sequence.{job_of}
use Rattle.section_sequence.proofs.Standing.{stays_ended, goes_on}
use Rattle.section_sequence.proofs.running.go_on.Goals as goal

pub returns-then-ne-clause-runs : goal.returns-then-ne-clause-runs
returns-then-ne-clause-runs g c =
    let J = job_of g.T.Operators.table c.args.job.now.settings.now c.args.job.now.moment c.args.job.now.text.now in
    stays_ended g.O.Outlet.since g.met.O.Outlet.nothing J c.args.section.now c.args.ran (g.M.Mem.log c.args.mem.now).view c.args.out.now (search rules)

pub returns-clause-runs : goal.returns-clause-runs
returns-clause-runs g c =
    let J = job_of g.T.Operators.table c.args.job.now.settings.now c.args.job.now.moment c.args.job.now.text.now in
    goes_on g.O.Outlet.since g.O.Outlet.cut J c.args.section.now c.args.ran.regs (g.M.Mem.log c.args.mem.now) c.run_section.result (g.M.Mem.log c.run_section.new.mem) c.run_section.new.out c.args.out.now
    c.text.result.now c.text.ensures (g.met.M.Base.untracked c.args.mem.now) c.run_section.ensures.runs c.run_section.ensures.cut c.args.ran.end (search rules)
