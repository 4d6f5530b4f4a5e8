use Rattle.stroke_build.proofs.Bits.{double_bit}
use Rattle.stroke_build.proofs.pen.bit.Goals as goal

pub returns-clause-double : goal.returns-clause-double
returns-clause-double c = double_bit c.args.left c.requires
