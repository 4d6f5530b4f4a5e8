use Rattle.vm_content.specs.Content.{slot_in}
use Rattle.vm_committed.proofs.Undoing.{held_back}
use Rattle.vm_committed.proofs.cells.Cells.undo_of_held.Goals as goal

pub returns-in_ok-before-in-Some : goal.returns-in_ok-before-in-Some
returns-in_ok-before-in-Some c = held_back c.args.self.now c.args.cell (slot_in c.args.at.now) c.args.value.now c.in_ok-before-in-Some.before c.in-Some.content.now c.in-Some.ensures c.in_ok-before-in-Some.ensures
