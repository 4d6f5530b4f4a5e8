use Rattle.std.proofs.Common.{◌≡◌, ◌++◌, take}
use Rattle.dump_lines.specs.Values.{count_text, spaced}
use Rattle.dump_lines.proofs.values.push_spaced_counts.Given as goal

abbrev pub invariant-loop-real : goal.invariant-loop-real
invariant-loop-real l = l.text ≡ l.fn.text ++ spaced count_text (take l.real-index l.reals)
