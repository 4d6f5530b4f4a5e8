use Rattle.std.proofs.Common.{◌+◌, ◌*◌, ◌≡◌, cond, set, get_or, arith}
use Rattle.ps_shapes.specs.Bits.{IsFilled}
use Rattle.ps_shapes.proofs.Filling.{Becomes, whole, filled_byte, filled_more}
use Rattle.ps_shapes.proofs.paper.fill_bytes.Goals as goal

pub loop-k-preserved : goal.loop-k-preserved
loop-k-preserved c =
    let xs = c.loop-k.bytes in
    let k = c.loop-k.k in
    let v = c.whole_byte-value.result in
    let becomes : Becomes 0 8 c.args.ink (get_or xs k 0) v = rw c.whole_byte-value.ensures (whole c.args.ink (get_or xs k 0)) in
    filled_more c.args.bytes.now xs (set xs k v) (8 * c.args.low) (8 * k) (8 * (k + 1)) c.args.ink c.loop-k.invariant
    (filled_byte xs k v 0 8 (8 * k) (8 * (k + 1)) c.args.ink (omega arith) (omega arith) (omega arith) (omega arith) becomes) (omega arith) (omega arith)
