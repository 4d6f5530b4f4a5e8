use Rattle.std.proofs.Common.{◌*◌}
use Rattle.ps_shapes.specs.Bits.{IsFilled}
use Rattle.ps_shapes.proofs.paper.fill_bytes.Given as goal

abbrev pub invariant-loop-k : goal.invariant-loop-k
invariant-loop-k l = IsFilled l.fn.bytes l.bytes (8 * l.low) (8 * l.k) l.ink
