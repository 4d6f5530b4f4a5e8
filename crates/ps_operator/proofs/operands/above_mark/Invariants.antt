use Rattle.std.proofs.Common.{◌≡◌, drop}
use Rattle.ps_operator.specs.Marks.{above_mark_from}
use Rattle.ps_operator.proofs.operands.above_mark.Given as goal

abbrev pub invariant-loop-depth : goal.invariant-loop-depth
invariant-loop-depth l = above_mark_from l.depth (drop l.depth l.operands) ≡ above_mark_from 0 l.operands
