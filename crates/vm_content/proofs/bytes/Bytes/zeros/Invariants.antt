use Rattle.std.proofs.Common.{◌≡◌, replicate}
use Rattle.vm_content.proofs.bytes.Bytes.zeros.Given as goal

abbrev pub invariant-loop : goal.invariant-loop
invariant-loop l = l.items.items ≡ replicate l.counter 0
