use Rattle.ps_paper.specs.Ink.{clipped, painted}
use Rattle.paint_ops.proofs.Papers.{is_repainted}
use Rattle.paint_ops.proofs.painting.repaint.Goals as goal

pub returns : goal.returns
returns g c =
    let log = g.M.Mem.log in
    is_repainted (λ p. painted p (clipped c.args.spans.now c.args.clips.now) c.args.gray.count c.args.thresholds.now)
    (log c.args.mem.now) (log c.lift.new.self) (log c.lay.new.self) c.in_ok-paper.paper c.paint.new.paper
    c.in_ok-paper.ensures.paper c.in_ok-paper.ensures.lifted c.paint.ensures c.lay.ensures
