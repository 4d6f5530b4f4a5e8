use Rattle.std.proofs.Common.{◌≡◌, ◌++◌, take}
use Rattle.std.specs.Prelude.{reverse}
use Rattle.dump_lines.specs.Registers.{mark_text}
use Rattle.dump_lines.specs.Values.{spaced}
use Rattle.dump_lines.proofs.registers.push_saves.Given as goal

abbrev pub invariant-loop-done : goal.invariant-loop-done
invariant-loop-done l = l.text ≡ l.fn.text ++ spaced mark_text (take l.done (reverse l.saves))
