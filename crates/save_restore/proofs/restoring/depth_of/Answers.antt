use Rattle.std.proofs.Common.{sym, ◌∙◌}
use Rattle.save_restore.proofs.Opening.{mark_hit}
use Rattle.save_restore.proofs.restoring.depth_of.Goals as goal

pub returns-then-is_same : goal.returns-then-is_same
returns-then-is_same c =
    mark_hit c.args.save c.args.saves.now c.loop-depth.depth c.at.result.now c.at.ensures (sym c.is_same.ensures ∙ c.if-is_same.true)
    c.loop-depth.invariant.open_there c.loop-depth.invariant.behind
