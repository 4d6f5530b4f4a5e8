use Rattle.std.proofs.Common.{◌+◌, drop}
use Rattle.stroke_build.specs.Outlines.{outline, outlines_by}
use Rattle.stroke_build.proofs.Drawn.{passed_on}
use Rattle.stroke_build.proofs.Outlining.{begun, gone_on, stopped, ended, subpaths_split, subpaths_past}
use Rattle.stroke_build.proofs.outline.draw_subpaths.Goals as goal

pub loop-subpath-preserved : goal.loop-subpath-preserved
loop-subpath-preserved c =
    gone_on _ _ _ _ _ _ _ (subpaths_split c.args.pen c.args.ring.now c.args.subpaths.now c.loop-subpath.subpath-index c.subpath-item.result c.loop-subpath-test.true c.subpath-item.is) c.loop-subpath.invariant c.in_ok-draw_subpath.ensures

pub returns-in_err-draw_subpath : goal.returns-in_err-draw_subpath
returns-in_err-draw_subpath c =
    stopped _ _ (outline c.args.pen c.args.ring.now c.subpath-item.result) (outlines_by c.args.pen c.args.ring.now (drop (c.loop-subpath.subpath-index + 1) c.args.subpaths.now)) _ _ _ _ _ _ (passed_on _ _ c.from_residual.ensures) (subpaths_split c.args.pen c.args.ring.now c.args.subpaths.now c.loop-subpath.subpath-index c.subpath-item.result c.loop-subpath-test.true c.subpath-item.is) c.loop-subpath.invariant c.in_err-draw_subpath.ensures

pub returns : goal.returns
returns c = ended _ _ _ _ (subpaths_past c.args.pen c.args.ring.now c.args.subpaths.now c.loop-subpath.subpath-index c.loop-subpath-test.false) c.loop-subpath.invariant

pub loop-subpath-init : goal.loop-subpath-init
loop-subpath-init c = begun _ _
