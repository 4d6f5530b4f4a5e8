use Rattle.std.proofs.Common.{arith}
use Rattle.stroke_build.proofs.Bits.{root_step, next_power}
use Rattle.stroke_build.proofs.pen.root.Goals as goal

pub loop-left-preserved : goal.loop-left-preserved
loop-left-preserved c =
    let power = next_power c.loop-left.left c.bit.result c.loop-left-test.true c.bit.ensures.value in
    record {
      bound = omega arith;
      same = root_step c.loop-left.left c.args.n c.loop-left.root c.bit.result c.with_bit-root.result _ c.loop-left-test.true c.bit.ensures.value c.with_bit-root.ensures.value c.loop-left.invariant.same;
    }
