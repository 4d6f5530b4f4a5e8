-- Nothing is added after the products.
use Rattle.std.proofs.Common.{rules, SFits, to_z-of_z, ◌∙◌, ap}
use Rattle.std.specs.Int.{w128}
use Rattle.ps_fixed.specs.Rounding.{real_of}
use Rattle.ps_fixed.proofs.Floors.{plus_nothing}
use Rattle.ps_fixed.proofs.matrices.dot_product.Goals as goal

pub returns : goal.returns
returns c =
    let first : SFits w128 c.product.result = search rules in
    let second : SFits w128 c.product-2.result = search rules in
    let sum : SFits w128 c.nearest_sum.result = search rules in
    let result = simp to_z-of_z at c.real_of.ensures in
    let rounded = simp to_z-of_z at c.nearest_sum.ensures in
    result ∙ ap real_of (rounded ∙ plus_nothing c.product.result c.product-2.result _ _ c.product.ensures.value c.product-2.ensures.value)
