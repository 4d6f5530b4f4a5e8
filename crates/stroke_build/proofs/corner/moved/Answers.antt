use Rattle.std.proofs.Common.{arith}
use Rattle.std.proofs.lemmas.Int.{ints}
use Rattle.stroke_build.proofs.Walks.{corner_is}
use Rattle.stroke_build.proofs.corner.moved.Goals as goal

pub returns : goal.returns
returns c = corner_is _ _ _ _ (omega (arith, ints)) (omega (arith, ints))
