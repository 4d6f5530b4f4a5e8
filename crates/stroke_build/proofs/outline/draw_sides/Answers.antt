use Rattle.std.proofs.Common.{◌+◌, [], ◌∷◌, drop}
use Rattle.std.specs.Prelude.{map}
use Rattle.stroke_build.specs.Outlines.{side_polygon}
use Rattle.stroke_build.proofs.Drawn.{passed_on}
use Rattle.stroke_build.proofs.Outlining.{begun, gone_on, stopped, ended, sides_split, sides_past}
use Rattle.stroke_build.proofs.outline.draw_sides.Goals as goal

pub loop-side-preserved : goal.loop-side-preserved
loop-side-preserved c =
    gone_on _ _ _ _ _ _ _ (sides_split c.args.sides.now c.loop-side.side-index c.side-item.result c.loop-side-test.true c.side-item.is) c.loop-side.invariant c.in_ok-draw_side.ensures

pub returns-in_err-draw_side : goal.returns-in_err-draw_side
returns-in_err-draw_side c =
    stopped _ _ (side_polygon c.side-item.result ∷ []) (map side_polygon (drop (c.loop-side.side-index + 1) c.args.sides.now)) _ _ _ _ _ _ (passed_on _ _ c.from_residual.ensures) (sides_split c.args.sides.now c.loop-side.side-index c.side-item.result c.loop-side-test.true c.side-item.is) c.loop-side.invariant c.in_err-draw_side.ensures

pub returns : goal.returns
returns c = ended _ _ _ _ (sides_past c.args.sides.now c.loop-side.side-index c.loop-side-test.false) c.loop-side.invariant

pub loop-side-init : goal.loop-side-init
loop-side-init c = begun _ _
