use Rattle.std.proofs.Common.{sym, ◌∙◌}
use Rattle.ps_start.proofs.Scales.{scale_not_negative}
use Rattle.ps_start.proofs.matrix.scale.Goals as goal

pub returns-in-Ok-clause-positive : goal.returns-in-Ok-clause-positive
returns-in-Ok-clause-positive c = scale_not_negative c.args.dpi c.whole.result c.whole-2.result c.in-Ok.scale c.whole.ensures c.whole-2.ensures (sym c.in-Ok.is ∙ c.div.ensures)
