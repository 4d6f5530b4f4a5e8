use Rattle.std.proofs.Common.{◌≡◌, ◌++◌, take}
use Rattle.std.specs.Prelude.{flat_map}
use Rattle.dump_lines.specs.Registers.{layer_line}
use Rattle.dump_lines.proofs.registers.push_layers.Given as goal

abbrev pub invariant-loop-depth : goal.invariant-loop-depth
invariant-loop-depth l = l.text ≡ l.fn.text ++ flat_map (layer_line l.start) (take l.depth l.layers)
