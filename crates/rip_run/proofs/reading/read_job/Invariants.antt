use Rattle.std.proofs.Common.{◌≡◌, ◌+◌, ◌-◌, ◌≤◌, vec_len}
use Rattle.rip_ports.specs.Ports.{Gives}
use Rattle.rip_run.proofs.reading.read_job.Given as goal

abbrev pub invariant-loop-job : goal.invariant-loop-job
invariant-loop-job g l = record {
  given : Gives l.job.items (g.S.Source.left l.fn.source) (g.S.Source.left l.source);
  counted : g.S.Source.faults l.fn.source ≤ g.S.Source.faults l.source;
  room : vec_len l.piece ≡ 65536;
  within : vec_len l.job ≤ l.most + 1;
}

abbrev pub decreases-loop-job : goal.decreases-loop-job
decreases-loop-job g l = l.most + 1 - vec_len l.job
