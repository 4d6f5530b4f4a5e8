use Rattle.std.proofs.Common.{◌≡◌, drop}
use Rattle.ps_operator.specs.Registers.{any_of}
use Rattle.paint_ops.specs.Measuring.{measures}
use Rattle.paint_ops.proofs.measuring.is_measured.Given as goal

-- one of the frames that are left measures where one of all does
abbrev pub invariant-loop-depth : goal.invariant-loop-depth
invariant-loop-depth l = any_of measures (drop l.depth l.frames) ≡ any_of measures l.frames
