use Rattle.std.proofs.Common.{◌≡◌, drop}
use Rattle.ps_operator.specs.Registers.{any_of}
use Rattle.control_ops.specs.Leaving.{is_stopped}
use Rattle.control_ops.proofs.leaving.any_stopped.Given as goal

-- one of those left is that of a `stopped` where one of all is
abbrev pub invariant-loop-depth : goal.invariant-loop-depth
invariant-loop-depth l = any_of is_stopped (drop l.depth l.frames) ≡ any_of is_stopped l.frames
