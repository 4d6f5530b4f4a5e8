use Rattle.path_flat.proofs.Weighing.{weights_sum}
use Rattle.path_flat.proofs.curve.weights_at.Goals as goal

pub returns-clause-whole : goal.returns-clause-whole
returns-clause-whole c = weights_sum c.args.part c.requires
