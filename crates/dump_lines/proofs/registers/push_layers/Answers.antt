use Rattle.std.proofs.Common.{◌<◌, arith}
use Rattle.dump_lines.specs.Registers.{layer_line}
use Rattle.dump_lines.proofs.Pieces.{one_newer}
use Rattle.dump_lines.proofs.registers.push_layers.Goals as goal

pub loop-depth-preserved : goal.loop-depth-preserved
loop-depth-preserved c =
    one_newer (layer_line c.args.start.now) c.args.layers.now c.loop-depth.depth c.at.result.now c.args.text.now c.loop-depth.text c.push_layer_line.new.text
    (omega (arith, c.loop-depth-test.true, c.len-count.ensures)) c.at.ensures c.loop-depth.invariant c.in_ok-push_layer_line.ensures
