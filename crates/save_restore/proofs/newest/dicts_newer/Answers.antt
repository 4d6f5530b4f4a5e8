use Rattle.std.proofs.Common.{sym, ◌∙◌}
use Rattle.ps_objects.specs.declared.cell.Cell.{Cell}
use Rattle.ps_memory.specs.Memory.{newer}
use Rattle.ps_operator.proofs.StoreSteps.{any_miss}
use Rattle.save_restore.proofs.newest.dicts_newer.Goals as goal

pub loop-depth-preserved : goal.loop-depth-preserved
loop-depth-preserved c =
    sym (any_miss (λ (d : Cell). newer d c.args.save) c.args.dicts.now c.loop-depth.depth c.at.result.now c.at.ensures (sym c.is_newer_than.ensures ∙ c.if-is_newer_than.false))
    ∙ c.loop-depth.invariant
