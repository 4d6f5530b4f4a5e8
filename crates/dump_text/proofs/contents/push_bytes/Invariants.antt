use Rattle.std.proofs.Common.{◌≡◌, ◌++◌}
use Rattle.dump_text.specs.Contents.{counted, string_byte}
use Rattle.dump_text.proofs.contents.push_bytes.Given as goal

abbrev pub invariant-loop-at : goal.invariant-loop-at
invariant-loop-at g l = l.text ≡ l.fn.text ++ counted (string_byte (g.B.Mem.log l.mem).view l.string) l.at
