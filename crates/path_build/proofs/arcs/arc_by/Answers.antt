-- The arc that the operands tell is drawn.
use Rattle.std.proofs.Common.{sym, ◌∙◌}
use Rattle.path_build.proofs.Drawing.{arc_told}
use Rattle.path_build.proofs.arcs.arc_by.Goals as goal

pub returns : goal.returns
returns c = arc_told c.args.turn c.args.state.now c.in_ok-arc.arc c.draw.result c.draw.new.state (sym c.arc_at.ensures.arc ∙ c.in_ok-arc.was) c.draw.ensures
