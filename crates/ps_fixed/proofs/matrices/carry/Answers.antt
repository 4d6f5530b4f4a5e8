-- The fractions of two products come to less than two counts.
use Rattle.std.proofs.Common.{arith, rules, SFits, to_z-of_z, ◌∙◌, ap₂}
use Rattle.std.specs.Int.{w128}
use Rattle.std.specs.Prelude.{◌+ℤ◌, ℤ}
use Rattle.std.proofs.lemmas.Int.{ints}
use Rattle.ps_fixed.specs.Rounding.{nearest_count}
use Rattle.ps_fixed.proofs.matrices.carry.Goals as goal

pub returns-clause-value : goal.returns-clause-value
returns-clause-value c =
    let fits_p : SFits w128 c.args.p = search rules in
    let fits_q : SFits w128 c.args.q = search rules in
    let fits_first : SFits w128 c.fraction.result = search rules in
    let fits_second : SFits w128 c.fraction-2.result = search rules in
    let fits_sum : SFits w128 (c.fraction.result +ℤ c.fraction-2.result) = omega (arith, ints) in
    let first = simp to_z-of_z at c.fraction.ensures.value in
    let second = simp to_z-of_z at c.fraction-2.ensures.value in
    let value = simp to_z-of_z at c.nearest_count.ensures.value in
    let fits_value : SFits w128 c.nearest_count.result = search rules in
    to_z-of_z fits_value ∙ value ∙ ap₂ (λ (x y : ℤ). nearest_count (x +ℤ y)) first second

pub returns-clause-bound : goal.returns-clause-bound
returns-clause-bound c =
    let fits_first : SFits w128 c.fraction.result = search rules in
    let fits_second : SFits w128 c.fraction-2.result = search rules in
    let fits_sum : SFits w128 (c.fraction.result +ℤ c.fraction-2.result) = omega (arith, ints) in
    let low = simp to_z-of_z at c.nearest_count.ensures.low in
    let high = simp to_z-of_z at c.nearest_count.ensures.high in
    omega (arith, ints)
