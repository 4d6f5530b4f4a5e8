use Rattle.std.proofs.Common.{◌∙◌}
use Rattle.vm_committed.proofs.TakingBack.{one_closed}
use Rattle.vm_committed.proofs.quick.none_opens.Goals as goal

pub loop-depth-preserved : goal.loop-depth-preserved
loop-depth-preserved c = one_closed c.args.writes.now c.loop-depth.depth c.at.result.now c.loop-depth.invariant c.at.ensures (c.opens_none.ensures ∙ c.if-not-opens_none.false)
