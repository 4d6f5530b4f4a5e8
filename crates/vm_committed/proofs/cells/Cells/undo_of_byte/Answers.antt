use Rattle.vm_committed.proofs.Undoing.{byte_back, byte_beyond}
use Rattle.vm_committed.proofs.cells.Cells.undo_of_byte.Goals as goal

pub returns-in-Some-get : goal.returns-in-Some-get
returns-in-Some-get c = byte_back c.args.self.now c.args.string c.args.at c.args.value.now c.in-Some.bytes.now c.in-Some-get.byte c.in-Some.ensures c.in-Some-get.ensures

pub returns-in-None-get : goal.returns-in-None-get
returns-in-None-get c = byte_beyond c.args.self.now c.args.string c.args.at c.args.value.now c.in-Some.bytes.now c.in-Some.ensures c.in-None-get.ensures
