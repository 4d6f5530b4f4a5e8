use Rattle.ps_operator.proofs.Looked.{item_fits}
use Rattle.ps_operator.proofs.look.glance_item.Goals as goal

pub overflow_add-array : goal.overflow_add-array
overflow_add-array g c = item_fits (g.M.Mem.log c.args.mem.now).view c.args.array c.args.at c.requires.array c.requires.at
