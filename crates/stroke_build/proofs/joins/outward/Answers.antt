use Rattle.std.proofs.Common.{◌∙◌, rules}
use Rattle.std.proofs.lemmas.Int.{to_z-of_z}
use mir.Val.{SFits}
use mir.Syntax.{w128}
use Rattle.stroke_build.proofs.Joining.{outward_is}
use Rattle.stroke_build.proofs.joins.outward.Goals as goal

pub returns : goal.returns
returns c =
    let x : SFits w128 c.args.x = search rules in
    let y : SFits w128 c.args.y = search rules in
    let u : SFits w128 c.outer.result = search rules in
    let v : SFits w128 c.outer-2.result = search rules in
    outward_is c.args.a c.args.b c.args.x c.args.y _ _ _ _ _ _ c.moved.ensures
    (to_z-of_z w128 c.outer.result u ∙ c.outer.ensures.value) (to_z-of_z w128 c.outer-2.result v ∙ c.outer-2.ensures.value)
    c.is_against-is_against.ensures (to_z-of_z w128 c.args.x x) (to_z-of_z w128 c.args.y y)
