use Rattle.std.proofs.Common.{◌∙◌, rules}
use Rattle.std.proofs.lemmas.Int.{to_z-of_z}
use mir.Val.{SFits}
use mir.Syntax.{w64, w128}
use Rattle.stroke_build.proofs.Joining.{cross_is}
use Rattle.stroke_build.proofs.joins.cross.Goals as goal

pub returns : goal.returns
returns c =
    let d : SFits w128 c.difference_of.result = search rules in
    let p : SFits w128 c.product.result = search rules in
    let q : SFits w128 c.product-2.result = search rules in
    let r : SFits w64 c.run.result = search rules in
    let f : SFits w64 c.fall.result = search rules in
    let g : SFits w64 c.fall-2.result = search rules in
    let s : SFits w64 c.run-2.result = search rules in
    cross_is c.args.a c.args.b _ _ _ _ _ _ _ (to_z-of_z w128 c.difference_of.result d ∙ c.difference_of.ensures)
    (to_z-of_z w128 c.product.result p ∙ c.product.ensures.value) (to_z-of_z w128 c.product-2.result q ∙ c.product-2.ensures.value)
    (to_z-of_z w64 c.run.result r ∙ c.run.ensures.value) (to_z-of_z w64 c.fall.result f ∙ c.fall.ensures.value)
    (to_z-of_z w64 c.fall-2.result g ∙ c.fall-2.ensures.value) (to_z-of_z w64 c.run-2.result s ∙ c.run-2.ensures.value)
