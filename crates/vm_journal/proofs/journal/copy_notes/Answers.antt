use Rattle.vm_journal.proofs.Copying.{note_copied}
use Rattle.vm_journal.proofs.journal.copy_notes.Goals as goal

pub loop-at-preserved : goal.loop-at-preserved
loop-at-preserved c =
    note_copied c.args.notes.now.entries c.loop-at.copy.entries c.insert.new.notes.entries c.loop-at.at-iterator c.next.new.self c.in-Some.at.now c.in_ok-copy.field-0 c.in-Some.value.now c.in_ok-copy-2.field-0
    c.iter-at-items.ensures.ordered c.loop-at.invariant c.in-Some.ensures.steps c.in_ok-insert.ensures c.in_ok-copy.ensures c.in_ok-copy-2.ensures
