use Rattle.vm_committed.specs.contracts.cells.Cells.{the_view}
use Rattle.vm_committed.proofs.Undoing.{holders_given_local, holders_given_global}
use Rattle.vm_committed.proofs.cells.Cells.undo_in_cell.Goals as goal

pub invariant_of-self : goal.invariant_of-self
invariant_of-self c = holders_given_local (the_view c.self.inside) c.undo.new.self c.args.cell c.args.before c.undo.ensures c.self.invariant

pub invariant_of-self-in-Global : goal.invariant_of-self-in-Global
invariant_of-self-in-Global c = holders_given_global (the_view c.self.inside) _ c.args.cell c.args.before c.undo_in_cell.ensures c.self.invariant
