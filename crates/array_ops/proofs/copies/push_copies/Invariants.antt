use Rattle.std.proofs.Common.{◌≡◌}
use Rattle.array_ops.proofs.Copying.{so_far}
use Rattle.array_ops.proofs.copies.push_copies.Given as goal

-- the copies so far, the newest of them first
abbrev pub invariant-loop : goal.invariant-loop
invariant-loop l = l.operands ≡ so_far l.counter l.count l.fn.operands
