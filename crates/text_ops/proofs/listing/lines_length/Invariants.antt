use Rattle.std.proofs.Common.{◌≡◌, ◌+◌, drop}
use Rattle.ps_operator.specs.Registers.{ops}
use Rattle.text_ops.specs.Listing.{lines_length}
use Rattle.text_ops.proofs.listing.lines_length.Given as goal

-- what was counted and what is left are the whole
abbrev pub invariant-loop-depth : goal.invariant-loop-depth
invariant-loop-depth l = l.len + lines_length (drop l.depth (ops l.state)) ≡ lines_length (ops l.state)
