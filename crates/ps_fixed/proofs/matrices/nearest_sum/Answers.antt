-- The sum of the parts is the rounded sum.
use Rattle.std.proofs.Common.{arith, rules, SFits, to_z-of_z}
use Rattle.std.specs.Int.{w128}
use Rattle.std.proofs.lemmas.Int.{ints}
use Rattle.ps_fixed.proofs.Floors.{nearest_sum_from, four_added}
use Rattle.ps_fixed.proofs.matrices.nearest_sum.Goals as goal

pub returns : goal.returns
returns c =
    let fits_p : SFits w128 c.args.p = search rules in
    let fits_q : SFits w128 c.args.q = search rules in
    four_added c.whole_part.result c.whole_part-2.result c.args.t c.carry.result _ (omega (arith, ints)) (omega (arith, ints)) (omega (arith, ints)) (search rules) (search rules) (search rules) (omega (arith, ints)) (search rules)
    (nearest_sum_from c.args.p c.args.q c.args.t c.whole_part.result c.whole_part-2.result c.carry.result
    (simp to_z-of_z at c.whole_part.ensures.value) (simp to_z-of_z at c.whole_part-2.ensures.value) (simp to_z-of_z at c.carry.ensures.value))
