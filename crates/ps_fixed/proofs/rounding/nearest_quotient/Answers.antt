-- The quotient of the magnitudes, by the sign of the dividend.
use Rattle.std.proofs.Common.{arith}
use Rattle.std.proofs.lemmas.Int.{ints}
use Rattle.ps_fixed.proofs.Floors.{nearest_up_by, nearest_down_by}
use Rattle.ps_fixed.proofs.rounding.nearest_quotient.Goals as goal

pub returns-then-p-lt0 : goal.returns-then-p-lt0
returns-then-p-lt0 c = nearest_down_by _ c.args.p c.args.q (omega arith) (omega (arith, ints)) (omega (arith, ints))

pub returns-else-p-lt0 : goal.returns-else-p-lt0
returns-else-p-lt0 c = nearest_up_by _ c.args.p c.args.q (omega arith) (omega (arith, ints)) (omega (arith, ints))
