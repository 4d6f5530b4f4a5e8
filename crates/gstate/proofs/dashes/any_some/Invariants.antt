use Rattle.std.proofs.Common.{◌≡◌, drop}
use Rattle.ps_operator.specs.Registers.{any_of}
use Rattle.gstate.specs.Dashes.{is_some}
use Rattle.gstate.proofs.dashes.any_some.Given as goal

-- one of those left is more than 0 where one of all is
abbrev pub invariant-loop-at : goal.invariant-loop-at
invariant-loop-at l = any_of is_some (drop l.at l.lengths) ≡ any_of is_some l.lengths
