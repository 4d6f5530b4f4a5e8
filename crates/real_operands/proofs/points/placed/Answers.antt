-- The image is where the matrix takes the point.
use Rattle.real_operands.proofs.Near.{placed_there}
use Rattle.real_operands.proofs.points.placed.Goals as goal

pub returns : goal.returns
returns c = placed_there c.args.matrix.now c.args.x c.args.y c.apply.result c.defined.result c.in_ok-image.image c.device_point.result c.apply.ensures c.defined.ensures c.in_ok-image.was c.device_point.ensures
