use Rattle.std.proofs.Common.{sym}
use Rattle.gstate.proofs.Widths.{width_positive}
use Rattle.gstate.proofs.lines.width_of.Goals as goal

pub new-requires : goal.new-requires
new-requires c = width_positive c.args.real c.in_ok-width.width (sym c.in_ok-width.ensures)
