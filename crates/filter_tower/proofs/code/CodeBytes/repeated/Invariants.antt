use Rattle.std.proofs.Common.{◌≡◌, replicate}
use Rattle.filter_tower.proofs.code.CodeBytes.repeated.Given as goal

abbrev pub invariant-bytes : goal.invariant-bytes
invariant-bytes l = l.code ≡ replicate l.counter l.byte
