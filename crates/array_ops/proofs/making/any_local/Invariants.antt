use Rattle.std.proofs.Common.{◌≡◌, take, drop}
use Rattle.ps_operator.specs.Registers.{any_of}
use Rattle.array_ops.specs.Making.{names_local}
use Rattle.array_ops.proofs.making.any_local.Given as goal

-- one of those left is local where one of all is
abbrev pub invariant-loop-n : goal.invariant-loop-n
invariant-loop-n l = any_of names_local (drop l.n (take l.count (drop l.below l.operands))) ≡ any_of names_local (take l.count (drop l.below l.operands))
