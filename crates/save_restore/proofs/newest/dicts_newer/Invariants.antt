use Rattle.std.proofs.Common.{◌≡◌, drop}
use Rattle.ps_memory.specs.Memory.{newer}
use Rattle.ps_operator.specs.Registers.{any_of}
use Rattle.save_restore.proofs.newest.dicts_newer.Given as goal

-- one of those left is newer where one of all is
abbrev pub invariant-loop-depth : goal.invariant-loop-depth
invariant-loop-depth l = any_of (λ d. newer d l.save) (drop l.depth l.dicts) ≡ any_of (λ d. newer d l.save) l.dicts
