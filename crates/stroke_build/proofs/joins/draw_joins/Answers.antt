use Rattle.std.proofs.Common.{◌+◌, drop}
use Rattle.stroke_build.specs.Outlines.{join, joins}
use Rattle.stroke_build.proofs.Drawn.{passed_on}
use Rattle.stroke_build.proofs.Outlining.{begun, gone_on, stopped, ended, joins_split, joins_past}
use Rattle.stroke_build.proofs.joins.draw_joins.Goals as goal

pub loop-side-preserved : goal.loop-side-preserved
loop-side-preserved c =
    gone_on _ _ _ _ _ _ _ (joins_split c.args.pen c.args.ring.now c.loop-side.before c.args.others.now c.loop-side.side-index c.side-item.result c.loop-side-test.true c.side-item.is) c.loop-side.invariant c.in_ok-draw_join.ensures

pub returns-in_err-draw_join : goal.returns-in_err-draw_join
returns-in_err-draw_join c =
    stopped _ _ (join c.args.pen c.args.ring.now c.loop-side.before c.side-item.result) (joins c.args.pen c.args.ring.now c.side-item.result (drop (c.loop-side.side-index + 1) c.args.others.now)) _ _ _ _ _ _ (passed_on _ _ c.from_residual.ensures) (joins_split c.args.pen c.args.ring.now c.loop-side.before c.args.others.now c.loop-side.side-index c.side-item.result c.loop-side-test.true c.side-item.is) c.loop-side.invariant c.in_err-draw_join.ensures

pub returns : goal.returns
returns c = ended _ _ _ _ (joins_past c.args.pen c.args.ring.now c.loop-side.before c.args.others.now c.loop-side.side-index c.loop-side-test.false) c.loop-side.invariant

pub loop-side-init : goal.loop-side-init
loop-side-init c = begun _ _
