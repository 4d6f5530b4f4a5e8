use Rattle.std.proofs.Common.{◌≡◌, ◌++◌, take}
use Rattle.dump_lines.specs.Values.{corner_text, spaced}
use Rattle.dump_lines.proofs.values.push_spaced_corners.Given as goal

abbrev pub invariant-loop-corner : goal.invariant-loop-corner
invariant-loop-corner l = l.text ≡ l.fn.text ++ spaced corner_text (take l.corner-index l.corners)
