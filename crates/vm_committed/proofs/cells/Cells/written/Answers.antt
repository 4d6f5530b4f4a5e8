use Rattle.std.proofs.Common.{arith}
use Rattle.vm_committed.proofs.Applied.{next_done}
use Rattle.vm_committed.proofs.cells.Cells.written.Goals as goal

pub loop-depth-preserved : goal.loop-depth-preserved
loop-depth-preserved c =
    next_done c.args.writes.now c.args.self.now c.loop-depth.memory c.write.new.self c.loop-depth.depth c.at.result.now c.loop-depth.invariant c.in_ok-write.ensures.ok c.at.ensures (omega arith)
