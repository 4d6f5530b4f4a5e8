use Rattle.std.proofs.Common.{◌≡◌, take}
use Rattle.data_filters.proofs.code.gives.Given as goal

abbrev pub invariant-loop-byte : goal.invariant-loop-byte
invariant-loop-byte l = l.code ≡ take l.byte-index l.bytes
