use Rattle.std.proofs.Common.{◌≡◌, sym, ◌∙◌}
use Rattle.ps_objects.specs.Key.{cell_of_key}
use Rattle.ps_operator.specs.Budgets.{is_local}
use Rattle.ps_operator.proofs.StoreSteps.{any_miss}
use Rattle.dict_ops.proofs.copies.any_local.Goals as goal

pub loop-at-preserved : goal.loop-at-preserved
loop-at-preserved c =
    sym (any_miss (λ k. is_local (cell_of_key k)) c.args.keys.now c.loop-at.at c.at.result.now c.at.ensures (sym c.is_local.ensures ∙ c.if-is_local.false))
    ∙ c.loop-at.invariant
