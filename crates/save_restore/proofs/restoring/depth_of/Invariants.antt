use Rattle.std.proofs.Common.{◌≡◌, drop}
use Rattle.ps_operator.specs.Newer.{marks_before}
use Rattle.save_restore.specs.Restoring.{open_mark}
use Rattle.save_restore.proofs.restoring.depth_of.Given as goal

-- the marks that are left have the mark that all have, and the same marks behind it
abbrev pub invariant-loop-depth : goal.invariant-loop-depth
invariant-loop-depth l =
    record {
      open_there : open_mark l.save (drop l.depth l.saves) ≡ open_mark l.save l.saves;
      behind : marks_before l.save (drop l.depth l.saves) ≡ marks_before l.save l.saves;
    }
