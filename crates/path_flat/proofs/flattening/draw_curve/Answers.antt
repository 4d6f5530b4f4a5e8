-- One line after another, on a path that has begun.
use Rattle.std.proofs.Common.{sym, ◌∙◌}
use Rattle.path_flat.proofs.Walking.{front_empty, lines_begin, lines_more}
use Rattle.path_flat.proofs.flattening.draw_curve.Goals as goal

pub loop-part-init : goal.loop-part-init
loop-part-init c = lines_begin c.args.path.now c.args.start c.args.first c.args.second c.args.end

pub push-requires : goal.push-requires
push-requires c = λ e. absurd (c.requires (front_empty _ _ (sym c.loop-part.invariant ∙ e)))

pub loop-part-preserved : goal.loop-part-preserved
loop-part-preserved c =
    lines_more c.args.path.now c.loop-part.path c.push.new.self c.loop-part.part c.args.start c.args.first c.args.second c.args.end c.curve_point-point.result
    c.loop-part.invariant c.in_ok-push.ensures.ok c.curve_point-point.ensures.point
