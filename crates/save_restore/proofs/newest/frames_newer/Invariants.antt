use Rattle.std.proofs.Common.{◌≡◌, drop}
use Rattle.ps_operator.specs.Newer.{frame_newer}
use Rattle.ps_operator.specs.Registers.{any_of}
use Rattle.save_restore.proofs.newest.frames_newer.Given as goal

-- one of those left keeps what is newer where one of all does
abbrev pub invariant-loop-depth : goal.invariant-loop-depth
invariant-loop-depth l = any_of (frame_newer l.save) (drop l.depth l.frames) ≡ any_of (frame_newer l.save) l.frames
