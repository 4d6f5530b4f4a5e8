use Rattle.std.proofs.Common.{◌≡◌, ◌++◌, take}
use Rattle.dump_lines.specs.Values.{segment_text, spaced}
use Rattle.dump_lines.proofs.values.push_spaced_segments.Given as goal

abbrev pub invariant-loop-segment : goal.invariant-loop-segment
invariant-loop-segment l = l.text ≡ l.fn.text ++ spaced segment_text (take l.segment-index l.segments)
