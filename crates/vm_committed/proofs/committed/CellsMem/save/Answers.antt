use Rattle.std.proofs.Common.{sym, ap}
use Rattle.ps_memory.specs.Memory.{Memory}
use Rattle.vm_committed.proofs.Asked.{save_latest}
use Rattle.vm_committed.proofs.committed.CellsMem.save.Goals as goal

pub open-requires-clause-latest : goal.open-requires-clause-latest
open-requires-clause-latest c = save_latest c.args.self.now c.args.name c.self.inside.locals.kept c.requires (ap (λ (M : Memory). M.kept) (sym c.self.view_is))
