use Rattle.std.proofs.Common.{sym, ◌∙◌}
use Rattle.paint_ops.proofs.Papers.{is_painted_so}
use Rattle.paint_ops.proofs.painting.paint_polygons.Goals as goal

pub returns : goal.returns
returns g c =
    let log = g.M.Mem.log in
    is_painted_so c.args.state.now c.args.rule c.args.polygons.now c.in_ok-spans.spans c.in_ok-clips.clips c.real-gray.result
    c.pixels-width.result c.pixels-height.result (log c.args.mem.now) (log c.repaint.new.mem)
    c.requires (sym c.is_measured.ensures ∙ c.if-is_measured.false) c.pixels-width.ensures.value c.pixels-height.ensures.value
    c.in_ok-spans.ensures.exact c.in_ok-clips.ensures (c.real-gray.ensures.value ∙ c.gray_of.ensures) c.in_ok-repaint.ensures
