use Rattle.std.proofs.Common.{sym, ◌∙◌}
use Rattle.stroke_build.proofs.Joining.{miter_open}
use Rattle.stroke_build.proofs.joins.draw_join.Goals as goal

pub draw_miter-requires-clause-open : goal.draw_miter-requires-clause-open
draw_miter-requires-clause-open c = miter_open c.args.pen c.args.a c.args.b (sym c.has_miter.ensures ∙ c.if-has_miter.true)
