use Rattle.std.proofs.Common.{◌++◌, drop}
use Rattle.std.specs.Prelude.{map}
use Rattle.stroke_build.specs.Outlines.{side_polygon, joins, ends}
use Rattle.stroke_build.proofs.Drawn.{drawn_both, drawn_first, passed_on}
use Rattle.stroke_build.proofs.outline.draw_along.Goals as goal

pub returns-in_err-draw_sides : goal.returns-in_err-draw_sides
returns-in_err-draw_sides c =
    let turned = joins c.args.pen c.args.ring.now c.args.first (drop 1 c.args.sides.now) in
    let ended = ends c.args.pen c.args.ring.now c.args.closed c.args.first c.args.last in
    drawn_first (map side_polygon c.args.sides.now) (turned ++ ended) c.args.polygons.now _ _ _ (passed_on _ _ c.from_residual.ensures) c.in_err-draw_sides.ensures

pub returns-in_err-draw_turns : goal.returns-in_err-draw_turns
returns-in_err-draw_turns c =
    let turned = joins c.args.pen c.args.ring.now c.args.first (drop 1 c.args.sides.now) in
    let ended = ends c.args.pen c.args.ring.now c.args.closed c.args.first c.args.last in
    drawn_both (map side_polygon c.args.sides.now) (turned ++ ended) c.args.polygons.now c.draw_sides.new.polygons _ _ c.in_ok-draw_sides.ensures
    (drawn_first turned ended c.draw_sides.new.polygons _ _ _ (passed_on _ _ c.from_residual-in_err-draw_turns.ensures) c.in_err-draw_turns.ensures)

pub returns : goal.returns
returns c =
    let turned = joins c.args.pen c.args.ring.now c.args.first (drop 1 c.args.sides.now) in
    let ended = ends c.args.pen c.args.ring.now c.args.closed c.args.first c.args.last in
    drawn_both (map side_polygon c.args.sides.now) (turned ++ ended) c.args.polygons.now c.draw_sides.new.polygons _ _ c.in_ok-draw_sides.ensures
    (drawn_both turned ended c.draw_sides.new.polygons c.draw_turns.new.polygons _ _ c.in_ok-draw_turns.ensures c.draw_ends.ensures)
