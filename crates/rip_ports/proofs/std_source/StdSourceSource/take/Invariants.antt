use Rattle.std.proofs.Common.{◌≤◌}
use Rattle.std.specs.Io.KnownBytes.{Keeps}
use Rattle.rip_ports.proofs.std_source.StdSourceSource.take.Given as goal

abbrev pub invariant-loop : goal.invariant-loop
invariant-loop g l = (l.fn.self.faults ≤ l.self-inside.faults) × Keeps (g.R.Read.remaining l.fn.self.device) (g.R.Read.remaining l.self-inside.reader)
