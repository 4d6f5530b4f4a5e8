-- By the sign of the distance.
use Rattle.std.proofs.Common.{arith}
use Rattle.std.proofs.lemmas.Int.{ints}
use Rattle.stroke_build.proofs.Quotients.{share_up, share_down}
use Rattle.stroke_build.proofs.arithmetic.share.Goals as goal

pub returns-then-d-lt0 : goal.returns-then-d-lt0
returns-then-d-lt0 c =
    let is = share_down c.part.result c.args.d c.args.radius c.args.length _ (omega arith) (omega (arith, ints)) c.part.ensures.value in
    omega (arith, ints)

pub returns-else-d-lt0 : goal.returns-else-d-lt0
returns-else-d-lt0 c =
    let is = share_up c.part-else-d-lt0.result c.args.d c.args.radius c.args.length _ (omega (arith, ints)) c.part-else-d-lt0.ensures.value in
    omega (arith, ints)
