use Rattle.std.proofs.Common.{◌≡◌, drop}
use Rattle.control_ops.specs.Leaving.{exit_right}
use Rattle.control_ops.proofs.leaving.exit_right.Given as goal

-- those left come to what all come to
abbrev pub invariant-loop-depth : goal.invariant-loop-depth
invariant-loop-depth l = exit_right (drop l.depth l.frames) ≡ exit_right l.frames
