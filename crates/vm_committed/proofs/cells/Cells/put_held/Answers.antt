use Rattle.vm_committed.specs.contracts.cells.Cells.{the_view}
use Rattle.vm_committed.proofs.WholeStores.{holders_local, holders_global}
use Rattle.vm_committed.proofs.cells.Cells.put_held.Goals as goal

pub invariant_of-self : goal.invariant_of-self
invariant_of-self c = holders_local c.put.result (the_view c.self.inside) c.put.new.self c.args.cell _ c.args.value c.put.ensures.ok c.put.ensures.err c.self.invariant

pub invariant_of-self-in-Global : goal.invariant_of-self-in-Global
invariant_of-self-in-Global c = holders_global c.put_in_cell.result (the_view c.self.inside) _ _ c.args.value c.put_in_cell.ensures.ok c.put_in_cell.ensures.err c.self.invariant
