use Rattle.std.proofs.Common.{◌≡◌, drop}
use Rattle.text_ops.specs.Listing.{all_readable}
use Rattle.text_ops.proofs.listing.all_readable.Given as goal

-- those left may be read where all may
abbrev pub invariant-loop-depth : goal.invariant-loop-depth
invariant-loop-depth l = all_readable (drop l.depth l.operands) ≡ all_readable l.operands
