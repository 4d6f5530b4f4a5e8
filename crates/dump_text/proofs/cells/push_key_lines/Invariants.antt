use Rattle.std.proofs.Common.{◌≡◌, ◌++◌, take}
use Rattle.std.specs.Prelude.{flat_map}
use Rattle.dump_text.specs.Cells.{line_of_key}
use Rattle.dump_text.proofs.cells.push_key_lines.Given as goal

abbrev pub invariant-loop-key : goal.invariant-loop-key
invariant-loop-key g l = l.text ≡ l.fn.text ++ flat_map (line_of_key (g.B.Mem.log l.start).view (g.B.Mem.log l.mem).view l.dict) (take l.key-index l.keys)
