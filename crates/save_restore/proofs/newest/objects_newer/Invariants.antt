use Rattle.std.proofs.Common.{◌≡◌, drop}
use Rattle.ps_operator.specs.Newer.{object_newer}
use Rattle.ps_operator.specs.Registers.{any_of}
use Rattle.save_restore.proofs.newest.objects_newer.Given as goal

-- one of those left is newer where one of all is
abbrev pub invariant-loop-depth : goal.invariant-loop-depth
invariant-loop-depth l = any_of (object_newer l.save) (drop l.depth l.objects) ≡ any_of (object_newer l.save) (drop l.from l.objects)
