use Rattle.std.proofs.Common.{◌∙◌, ◌≡◌, arith, rules}
use Rattle.std.proofs.lemmas.Int.{ints, to_z-of_z}
use mir.Val.{SFits, to_z, of_z}
use mir.Syntax.{w32, w128}
use Rattle.stroke_build.specs.Outlines.{tip}
use Rattle.stroke_build.proofs.Drawn.{drawn_as}
use Rattle.stroke_build.proofs.Joining.{miter_is, tip_at}
use Rattle.stroke_build.proofs.joins.draw_miter.Goals as goal

pub returns : goal.returns
returns c =
    let o : SFits w128 c.opening-q.result = search rules in
    let x : SFits w128 c.tip-x.result = search rules in
    let y : SFits w128 c.tip-y.result = search rules in
    drawn_as _ _ _ _ _ (miter_is c.args.radius c.args.a c.args.b _ _ _ _ _ _ c.opening-q.result c.opening-q.result c.joint.ensures c.outer_end-first.ensures c.outward.ensures
    (to_z-of_z w128 c.tip-x.result x ∙ c.tip-x.ensures.value ∙ (let e : tip c.args.radius (to_z w32 (of_z w32 c.args.a.normal.x)) (to_z w32 (of_z w32 c.args.b.normal.x)) (to_z w128 (of_z w128 c.opening-q.result)) ≡ tip c.args.radius c.args.a.normal.x c.args.b.normal.x c.opening-q.result = tip_at _ _ _ _ _ _ _ (omega (arith, ints)) (omega (arith, ints)) (omega (arith, ints)) in e))
    (to_z-of_z w128 c.tip-y.result y ∙ c.tip-y.ensures.value ∙ (let e : tip c.args.radius (to_z w32 (of_z w32 c.args.a.normal.y)) (to_z w32 (of_z w32 c.args.b.normal.y)) (to_z w128 (of_z w128 c.opening-q.result)) ≡ tip c.args.radius c.args.a.normal.y c.args.b.normal.y c.opening-q.result = tip_at _ _ _ _ _ _ _ (omega (arith, ints)) (omega (arith, ints)) (omega (arith, ints)) in e))
    c.opening-q.ensures.value c.opening-q.ensures.value c.outer_end-second.ensures) c.draw.ensures
