use Rattle.std.proofs.Common.{sym, ◌∙◌}
use Rattle.save_restore.proofs.Opening.{mark_is_there, mark_taken, marks_left}
use Rattle.save_restore.proofs.restoring.close_saves.Goals as goal

pub unreachable-requires : goal.unreachable-requires
unreachable-requires c =
    mark_is_there c.args.save c.args.saves.now c.in_ok-depth.depth c.in_ok-depth.ensures (sym c.shrink.ensures ∙ c.in-None.ensures.0)

pub returns-clause-mark : goal.returns-clause-mark
returns-clause-mark c =
    mark_taken c.args.save c.args.saves.now c.in_ok-depth.depth c.in_ok-depth.ensures c.in-Some.mark c.pop.new.self (sym c.shrink.ensures ∙ c.in-Some.ensures)

pub returns-clause-left : goal.returns-clause-left
returns-clause-left c =
    marks_left c.args.save c.args.saves.now c.in_ok-depth.depth c.in_ok-depth.ensures c.in-Some.mark c.pop.new.self (sym c.shrink.ensures ∙ c.in-Some.ensures)
