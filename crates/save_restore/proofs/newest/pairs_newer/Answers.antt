use Rattle.std.proofs.Common.{sym, ◌∙◌}
use Rattle.ps_operator.specs.Newer.{pair_newer}
use Rattle.ps_operator.proofs.StoreSteps.{any_miss}
use Rattle.save_restore.proofs.newest.pairs_newer.Goals as goal

pub loop-at-preserved : goal.loop-at-preserved
loop-at-preserved c =
    sym (any_miss (pair_newer c.args.save) c.args.pairs.now c.loop-at.at c.at.result.now c.at.ensures (sym c.pair_newer.ensures ∙ c.if-pair_newer.false))
    ∙ c.loop-at.invariant
