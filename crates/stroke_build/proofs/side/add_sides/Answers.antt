use Rattle.stroke_build.proofs.Walks.{side_added, sides_added}
use Rattle.stroke_build.proofs.side.add_sides.Goals as goal

pub loop-to-preserved : goal.loop-to-preserved
loop-to-preserved c =
    side_added c.args.radius c.loop-to.from c.args.points.now c.loop-to.to-index c.to-item.result c.loop-to.sides.items _ _ c.loop-to-test.true c.to-item.is c.loop-to.invariant c.in_ok-add_side.ensures

pub returns : goal.returns
returns c = sides_added c.args.radius c.loop-to.from c.args.points.now c.loop-to.to-index c.loop-to.sides.items _ c.loop-to-test.false c.loop-to.invariant
