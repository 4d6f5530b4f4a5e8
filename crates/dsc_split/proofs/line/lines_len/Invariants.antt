use Rattle.std.proofs.Common.{◌≡◌, ◌+◌, ◌≤◌, length, drop}
use Rattle.dsc_split.specs.Lines.{lines_len}
use Rattle.dsc_split.proofs.line.lines_len.Given as goal

abbrev pub invariant-loop-left : goal.invariant-loop-left
invariant-loop-left l =
    (l.len ≤ length l.text) × (l.len + lines_len l.left (drop l.len l.text) ≡ lines_len l.count l.text)

abbrev pub decreases-loop-left : goal.decreases-loop-left
decreases-loop-left l = l.left
