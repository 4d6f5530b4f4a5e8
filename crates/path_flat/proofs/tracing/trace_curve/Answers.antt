-- One point after another.
use Rattle.path_flat.proofs.Walking.{points_begin, points_more}
use Rattle.path_flat.proofs.tracing.trace_curve.Goals as goal

pub loop-part-init : goal.loop-part-init
loop-part-init c = points_begin c.args.points.now c.args.start c.args.first c.args.second c.args.end

pub loop-part-preserved : goal.loop-part-preserved
loop-part-preserved c =
    points_more c.args.points.now c.loop-part.points c.push.new.self c.loop-part.part c.args.start c.args.first c.args.second c.args.end c.curve_point-point.result c.pixel_point.result
    c.loop-part.invariant c.in_ok-push.ensures.ok c.pixel_point.ensures.point c.curve_point-point.ensures.point
