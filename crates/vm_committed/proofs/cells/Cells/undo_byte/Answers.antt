use Rattle.ps_objects.specs.declared.place.Value.TheVariants as value
use Rattle.vm_committed.specs.contracts.cells.Cells.{the_view}
use Rattle.vm_committed.proofs.WholeStores.{holders_byte}
use Rattle.vm_committed.proofs.cells.Cells.undo_byte.Goals as goal

pub invariant_of-self : goal.invariant_of-self
invariant_of-self c = holders_byte (the_view c.self.inside) _ c.args.string c.args.at (value.Byte c.args.byte) c.put_byte_in.ensures c.self.invariant
