use Rattle.std.proofs.Common.{◌≡◌, replicate}
use Rattle.ps_memory.specs.Memory.{null_object}
use Rattle.vm_content.proofs.content.nulls.Given as goal

abbrev pub invariant-loop : goal.invariant-loop
invariant-loop l = l.items.items ≡ replicate l.counter null_object
