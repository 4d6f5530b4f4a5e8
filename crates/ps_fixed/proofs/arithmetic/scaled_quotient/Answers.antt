-- By the dividend's sign.
use Rattle.std.proofs.Common.{arith}
use Rattle.std.proofs.lemmas.Int.{ints}
use Rattle.ps_fixed.proofs.Floors.{scaled_up, scaled_down}
use Rattle.ps_fixed.proofs.arithmetic.scaled_quotient.Goals as goal

pub returns-then-a-lt0 : goal.returns-then-a-lt0
returns-then-a-lt0 c =
    let is = scaled_down c.scaled_magnitude.result c.args.a c.args.b _ (omega arith) (omega (arith, ints)) c.scaled_magnitude.ensures.value in
    omega (arith, ints)

pub returns-else-a-lt0 : goal.returns-else-a-lt0
returns-else-a-lt0 c =
    let is = scaled_up c.scaled_magnitude-else-a-lt0.result c.args.a c.args.b _ (omega (arith, ints)) c.scaled_magnitude-else-a-lt0.ensures.value in
    omega (arith, ints)
