use Rattle.std.proofs.Common.{arith}
use Rattle.std.proofs.lemmas.Int.{ints}
use Rattle.stroke_build.proofs.Drawn.{drawn_as, nothing_drawn}
use Rattle.stroke_build.proofs.Joining.{bevel_none, bevel_some}
use Rattle.stroke_build.proofs.joins.draw_bevel.Goals as goal

pub returns-then-cross-eq0 : goal.returns-then-cross-eq0
returns-then-cross-eq0 c = nothing_drawn _ _ (bevel_none c.args.a c.args.b c.cross.result c.cross.ensures (omega (arith, ints)))

pub returns : goal.returns
returns c =
    drawn_as _ _ _ _ _ (bevel_some c.args.a c.args.b c.cross.result _ _ _ c.cross.ensures (λ e. omega (arith, ints)) c.joint.ensures c.outer_end-first.ensures c.outer_end-second.ensures) c.draw.ensures
