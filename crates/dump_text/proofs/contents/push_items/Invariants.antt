use Rattle.std.proofs.Common.{◌≡◌, ◌++◌}
use Rattle.dump_text.specs.Contents.{counted, item_text}
use Rattle.dump_text.proofs.contents.push_items.Given as goal

abbrev pub invariant-loop-at : goal.invariant-loop-at
invariant-loop-at g l = l.text ≡ l.fn.text ++ counted (item_text (g.B.Mem.log l.mem).view l.array) l.at
