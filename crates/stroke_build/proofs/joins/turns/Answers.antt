use Rattle.std.proofs.Common.{arith}
use Rattle.std.proofs.lemmas.Int.{ints}
use Rattle.stroke_build.proofs.Joining.{turns_is}
use Rattle.stroke_build.proofs.joins.turns.Goals as goal

pub returns : goal.returns
returns c = turns_is c.args.a c.args.b c.cross.result _ c.cross.ensures (λ e. omega (arith, ints)) (λ e. omega (arith, ints))
