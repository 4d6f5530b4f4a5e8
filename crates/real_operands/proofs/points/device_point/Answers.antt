-- The point is where its coordinates say.
use Rattle.real_operands.proofs.Near.{at_device}
use Rattle.real_operands.proofs.points.device_point.Goals as goal

pub returns-then-y-le-FARTHEST : goal.returns-then-y-le-FARTHEST
returns-then-y-le-FARTHEST c = at_device c.args.x c.args.y _ _
