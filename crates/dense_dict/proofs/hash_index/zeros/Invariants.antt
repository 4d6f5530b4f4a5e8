use Rattle.std.proofs.Common.{◌≡◌, replicate}
use Rattle.dense_dict.proofs.hash_index.zeros.Given as goal

abbrev pub invariant-loop : goal.invariant-loop
invariant-loop l = l.items.items ≡ replicate l.counter 0
