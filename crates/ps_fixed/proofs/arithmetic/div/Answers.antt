-- By the divisor's sign.
use Rattle.std.proofs.Common.{arith, rules, ◌∙◌, SFits, to_z-of_z}
use Rattle.std.specs.Prelude.{pos, ◌-ℤ◌}
use Rattle.std.specs.Int.{w128, w64}
use Rattle.std.proofs.lemmas.Int.{ints}
use Rattle.ps_fixed.proofs.Floors.{quotient_by_negative, quotient_by_positive}
use Rattle.ps_fixed.proofs.arithmetic.div.Goals as goal

pub returns-then-b-lt0 : goal.returns-then-b-lt0
returns-then-b-lt0 c =
    let narrow : SFits w64 c.args.a.count = search rules in
    let wide : SFits w128 c.args.a.count = omega (arith, ints) in
    let turned : SFits w128 (pos 0 -ℤ c.args.a.count) = omega (arith, ints) in
    let fits : SFits w128 c.scaled_quotient.result = search rules in
    let result = simp to_z-of_z at c.real_of.ensures in
    let quotient = simp to_z-of_z at c.scaled_quotient.ensures in
    result ∙ quotient_by_negative c.args.a.count c.args.b.count c.scaled_quotient.result (pos 0 -ℤ c.args.a.count) c.unsigned_abs.result quotient (omega (arith, ints)) (omega (arith, ints)) (omega (arith, ints))

pub returns-else-b-lt0 : goal.returns-else-b-lt0
returns-else-b-lt0 c =
    let narrow : SFits w64 c.args.a.count = search rules in
    let wide : SFits w128 c.args.a.count = omega (arith, ints) in
    let fits : SFits w128 c.scaled_quotient-else-b-lt0.result = search rules in
    let result = simp to_z-of_z at c.real_of-else-b-lt0.ensures in
    let quotient = simp to_z-of_z at c.scaled_quotient-else-b-lt0.ensures in
    result ∙ quotient_by_positive c.args.a.count c.args.b.count c.scaled_quotient-else-b-lt0.result c.args.a.count c.unsigned_abs-else-b-lt0.result quotient (omega (arith, ints)) (omega (arith, ints)) (omega (arith, ints))
