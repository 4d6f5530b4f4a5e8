-- By the dividend's sign.
use Rattle.std.proofs.Common.{arith}
use Rattle.std.proofs.lemmas.Int.{ints}
use Rattle.stroke_build.proofs.Quotients.{nearest_up, nearest_down}
use Rattle.stroke_build.proofs.arithmetic.nearest_quotient.Goals as goal

pub returns-then-p-lt0-clause-value : goal.returns-then-p-lt0-clause-value
returns-then-p-lt0-clause-value c =
    let is = nearest_down c.rounded.result _ c.args.p c.args.q (omega arith) c.rounded.ensures.value (omega (arith, ints)) in
    omega (arith, ints)

pub returns-else-p-lt0-clause-value : goal.returns-else-p-lt0-clause-value
returns-else-p-lt0-clause-value c =
    let is = nearest_up c.rounded-else-p-lt0.result _ c.args.p c.args.q c.rounded-else-p-lt0.ensures.value (omega (arith, ints)) in
    omega (arith, ints)
