use Rattle.std.proofs.Common.{◌≤◌}
use Rattle.std.specs.Io.KnownBytes.{Keeps}
use Rattle.rip_ports.proofs.std_sink.StdSink.flush.Given as goal

abbrev pub invariant-loop : goal.invariant-loop
invariant-loop g l = (l.fn.self.faults ≤ l.self.faults) × Keeps (g.W.Write.contents l.fn.self.device) (g.W.Write.contents l.self.device)
