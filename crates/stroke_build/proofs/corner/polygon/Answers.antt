use Rattle.stroke_build.proofs.Walks.{far_corner_at}
use Rattle.stroke_build.proofs.corner.polygon.Goals as goal

pub returns-in-None : goal.returns-in-None
returns-in-None c = far_corner_at c.args.corners.now c.loop-corner.corner-index _ c.loop-corner-test.true c.in-None.ensures
