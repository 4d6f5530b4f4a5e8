use Rattle.std.proofs.Common.{◌≡◌, drop}
use Rattle.ps_operator.specs.Newer.{pair_newer}
use Rattle.ps_operator.specs.Registers.{any_of}
use Rattle.save_restore.proofs.newest.pairs_newer.Given as goal

-- one of those left is newer where one of all is
abbrev pub invariant-loop-at : goal.invariant-loop-at
invariant-loop-at l = any_of (pair_newer l.save) (drop l.at l.pairs) ≡ any_of (pair_newer l.save) l.pairs
