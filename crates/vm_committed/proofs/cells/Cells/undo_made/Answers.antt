use Rattle.vm_committed.specs.contracts.cells.Cells.{the_view}
use Rattle.vm_committed.proofs.Undoing.{holders_less_local, holders_less_global}
use Rattle.vm_committed.proofs.cells.Cells.undo_made.Goals as goal

pub invariant_of-self : goal.invariant_of-self
invariant_of-self c = holders_less_local (the_view c.self.inside) c.remove.new.self _ c.args.cell c.remove.ensures c.remove_bytes.ensures c.self.invariant

pub invariant_of-self-in-Global : goal.invariant_of-self-in-Global
invariant_of-self-in-Global c = holders_less_global (the_view c.self.inside) _ _ c.args.cell c.remove_cell.ensures c.remove_bytes.ensures c.self.invariant
