use Rattle.std.proofs.Common.{◌≡◌, ◌++◌, take}
use Rattle.std.specs.Prelude.{reverse}
use Rattle.dump_lines.specs.Objects.{object_text}
use Rattle.dump_lines.specs.Values.{spaced}
use Rattle.dump_lines.proofs.registers.push_objects.Given as goal

abbrev pub invariant-loop-done : goal.invariant-loop-done
invariant-loop-done l = l.text ≡ l.fn.text ++ spaced object_text (take l.done (reverse l.objects))
