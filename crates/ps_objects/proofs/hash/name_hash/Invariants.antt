use Rattle.std.proofs.Common.{◌≡◌, take}
use Rattle.ps_objects.specs.Hash.{name_hash}
use Rattle.ps_objects.proofs.hash.name_hash.Given as goal

abbrev pub invariant-loop-byte : goal.invariant-loop-byte
invariant-loop-byte l = l.hash ≡ name_hash (take l.byte-index l.bytes)
