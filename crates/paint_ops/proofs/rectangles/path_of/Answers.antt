-- One rectangle after another.
use Rattle.std.proofs.Common.{sym, ◌∙◌}
use Rattle.paint_ops.proofs.Drawing.{rectangle_drawn, rectangle_refused, rectangles_drawn}
use Rattle.paint_ops.proofs.rectangles.path_of.Goals as goal

pub returns-in-Err : goal.returns-in-Err
returns-in-Err c =
    rectangle_refused c.args.matrix.now c.loop-n.path c.args.numbers.now c.loop-n.n c.rectangle_at.result
    c.rectangle_at.ensures.x c.rectangle_at.ensures.y c.rectangle_at.ensures.width c.rectangle_at.ensures.height
    c.in-Err.error c.in-Err.ensures c.loop-n.invariant

pub loop-n-preserved : goal.loop-n-preserved
loop-n-preserved c =
    sym (rectangle_drawn c.args.matrix.now c.loop-n.path c.args.numbers.now c.loop-n.n c.rectangle_at.result
    c.rectangle_at.ensures.x c.rectangle_at.ensures.y c.rectangle_at.ensures.width c.rectangle_at.ensures.height
    c.in-Ok.corners c.draw.new.path c.in-Ok.ensures c.in_ok-draw-in-Ok.ensures)
    ∙ c.loop-n.invariant

pub returns : goal.returns
returns c =
    sym c.loop-n.invariant
    ∙ rectangles_drawn c.args.matrix.now c.loop-n.path c.args.numbers.now c.loop-n.n c.loop-n-test.false
