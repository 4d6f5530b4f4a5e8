use Rattle.std.proofs.Common.{◌∙◌, arith}
use Rattle.vm_committed.proofs.Applied.{next_done}
use Rattle.vm_committed.proofs.cells.Cells.do_all.Goals as goal

pub loop-depth-preserved : goal.loop-depth-preserved
loop-depth-preserved c = (
  next_done c.args.writes.now c.args.self.now c.loop-depth.self c.do_one.new.self c.loop-depth.depth c.at.result.now c.loop-depth.invariant.0 c.in_ok-do_one.ensures.ok c.at.ensures (omega arith),
  c.do_one.ensures.back ∙ c.loop-depth.invariant.1,
  c.do_one.ensures.kept ∙ c.loop-depth.invariant.2,
)
