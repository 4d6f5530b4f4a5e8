use Rattle.std.proofs.Common.{◌∙◌, rules}
use Rattle.std.proofs.lemmas.Int.{to_z-of_z}
use mir.Val.{SFits}
use mir.Syntax.{w128}
use Rattle.stroke_build.proofs.Joining.{within_is}
use Rattle.stroke_build.proofs.joins.is_within.Goals as goal

pub returns : goal.returns
returns c =
    let s : SFits w128 c.scaled.result = search rules in
    let n : SFits w128 c.lengths.result = search rules in
    let l : SFits w128 c.limited.result = search rules in
    let k : SFits w128 c.limit.result = search rules in
    let m : SFits w128 c.lengths-2.result = search rules in
    let d : SFits w128 c.dot.result = search rules in
    within_is c.args.m c.args.a c.args.b _ _ _ _ _ _ (to_z-of_z w128 c.scaled.result s ∙ c.scaled.ensures)
    (to_z-of_z w128 c.lengths.result n ∙ c.lengths.ensures.value) (to_z-of_z w128 c.limited.result l ∙ c.limited.ensures)
    (to_z-of_z w128 c.limit.result k ∙ c.limit.ensures.value) (to_z-of_z w128 c.lengths-2.result m ∙ c.lengths-2.ensures.value)
    (to_z-of_z w128 c.dot.result d ∙ c.dot.ensures.value)
