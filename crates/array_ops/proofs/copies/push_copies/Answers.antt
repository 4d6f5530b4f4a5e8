use Rattle.std.proofs.Common.{◌<◌, arith}
use Rattle.array_ops.proofs.Copying.{copies_step}
use Rattle.array_ops.proofs.copies.push_copies.Goals as goal

pub loop-preserved : goal.loop-preserved
loop-preserved c =
    let l : c.loop.counter < c.args.count = omega (arith, c.loop-test.true) in
    copies_step c.loop.counter c.args.count c.args.operands.now c.loop.operands c.push_copy.new.operands l c.requires c.loop.invariant c.in_ok-push_copy.ensures
