-- What is counted, and what is left.
use Rattle.std.proofs.Common.{arith}
use Rattle.path_flat.proofs.Walking.{points_step, points_end, above_limit, within_limit}
use Rattle.path_flat.proofs.limit.flattens_within_limit.Goals as goal

pub returns-then-points-gt-POINT_LIMIT : goal.returns-then-points-gt-POINT_LIMIT
returns-then-points-gt-POINT_LIMIT c =
    let step = points_step c.args.segments.now c.loop-segment.segment-index c.segment-item.result c.loop-segment-test.true c.segment-item.is in
    above_limit _ (omega (arith, step, c.flat_points_of-points.ensures.points, c.loop-segment.invariant.1))

pub loop-segment-preserved : goal.loop-segment-preserved
loop-segment-preserved c =
    let step = points_step c.args.segments.now c.loop-segment.segment-index c.segment-item.result c.loop-segment-test.true c.segment-item.is in
    (omega arith, omega (arith, step, c.flat_points_of-points.ensures.points, c.loop-segment.invariant.1))

pub returns : goal.returns
returns c =
    let end = points_end c.args.segments.now c.loop-segment.segment-index (omega arith) in
    within_limit _ (omega (arith, end, c.loop-segment.invariant.1))
