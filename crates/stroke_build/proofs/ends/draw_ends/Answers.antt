use Rattle.stroke_build.specs.Outlines.{start_cap, end_cap}
use Rattle.stroke_build.proofs.Drawn.{drawn_as, drawn_both, drawn_first, passed_on}
use Rattle.stroke_build.proofs.Outlining.{ends_open}
use Rattle.stroke_build.proofs.ends.draw_ends.Goals as goal

pub returns-in_err-draw_start_cap : goal.returns-in_err-draw_start_cap
returns-in_err-draw_start_cap c =
    drawn_as _ _ _ _ _ (ends_open c.args.pen c.args.ring.now c.args.closed c.args.first c.args.last c.if-closed.false)
    (drawn_first (start_cap c.args.pen.cap c.args.ring.now c.args.first) (end_cap c.args.pen.cap c.args.ring.now c.args.last) c.args.polygons.now _ _ _ (passed_on _ _ c.from_residual.ensures) c.in_err-draw_start_cap.ensures)

pub returns-in_ok-draw_start_cap : goal.returns-in_ok-draw_start_cap
returns-in_ok-draw_start_cap c =
    drawn_as _ _ _ _ _ (ends_open c.args.pen c.args.ring.now c.args.closed c.args.first c.args.last c.if-closed.false)
    (drawn_both (start_cap c.args.pen.cap c.args.ring.now c.args.first) (end_cap c.args.pen.cap c.args.ring.now c.args.last) c.args.polygons.now c.draw_start_cap.new.polygons _ _ c.in_ok-draw_start_cap.ensures c.draw_end_cap.ensures)
