-- What is left leads to the whole.
use Rattle.std.proofs.Common.{◌≡◌, ◌≤◌, drop}
use Rattle.section_sequence.specs.Running.{sections_from}
use Rattle.section_sequence.specs.Sequence.{job_of}
use Rattle.section_sequence.proofs.Standing.{Stands}
use Rattle.section_sequence.proofs.running.run_sections.Given as goal

abbrev pub invariant-loop-section : goal.invariant-loop-section
invariant-loop-section g l =
    let J = job_of g.T.Operators.table l.fn.job.settings.now l.fn.job.moment l.fn.job.text.now in
    let whole = sections_from g.T.Operators.table l.fn.job.settings.now l.fn.job.moment l.fn.job.text.now l.fn.sections l.fn.regs (g.M.Mem.log l.fn.mem).view in
    record {
      counted : g.O.Outlet.faults l.fn.out ≤ g.O.Outlet.faults l.counter.out.now;
      same : l.counter.out.ghost_name ≡ l.initial.counter.out.ghost_name;
      stands : Stands g.O.Outlet.since J whole (drop l.section-index l.sections) l.ran (g.M.Mem.log l.mem).view l.counter l.fn.out;
    }
