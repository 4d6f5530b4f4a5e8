use Rattle.std.proofs.Common.{sym, ◌∙◌}
use Rattle.vm_journal.proofs.Dropping.{dropped_one, dropped_all}
use Rattle.vm_journal.proofs.locals.drop_newer.Goals as goal

pub loop-last-preserved-else-not-comes_after : goal.loop-last-preserved-else-not-comes_after
loop-last-preserved-else-not-comes_after c =
    dropped_one c.args.save c.args.cells.now c.loop-last.cells c.remove.new.self c.args.strings.now c.loop-last.strings c.remove-in-Some-2.new.self c.in-Some.last.now c.in-Some.field-0-1.now
    c.loop-last.invariant c.in-Some.ensures.value (sym c.comes_after.ensures ∙ c.if-not-comes_after.false) c.remove.ensures.updates c.remove-in-Some-2.ensures.updates

pub loop-last-preserved : goal.loop-last-preserved
loop-last-preserved c =
    dropped_one c.args.save c.args.cells.now c.loop-last.cells c.remove.new.self c.args.strings.now c.loop-last.strings c.remove-in-Some-2.new.self c.in-Some.last.now c.in-Some.field-0-1.now
    c.loop-last.invariant c.in-Some.ensures.value (sym c.comes_after.ensures ∙ c.if-not-comes_after.false) c.remove.ensures.updates c.remove-in-Some-2.ensures.updates

pub returns-then-not-comes_after-clause-cells : goal.returns-then-not-comes_after-clause-cells
returns-then-not-comes_after-clause-cells c =
    (dropped_all c.args.save c.args.cells.now c.loop-last.cells c.args.strings.now c.loop-last.strings c.in-Some.last.now c.requires.local c.loop-last.invariant c.in-Some.ensures.greatest
    (sym c.comes_after.ensures ∙ c.if-not-comes_after.true)).0

pub returns-then-not-comes_after-clause-strings : goal.returns-then-not-comes_after-clause-strings
returns-then-not-comes_after-clause-strings c =
    (dropped_all c.args.save c.args.cells.now c.loop-last.cells c.args.strings.now c.loop-last.strings c.in-Some.last.now c.requires.local c.loop-last.invariant c.in-Some.ensures.greatest
    (sym c.comes_after.ensures ∙ c.if-not-comes_after.true)).1
