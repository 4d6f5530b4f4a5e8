use Rattle.std.proofs.Common.{◌+◌, ◌*◌, ◌/◌, ◌%◌, ◌≡◌, arith}
use Rattle.ps_shapes.specs.Bits.{IsFilled}
use Rattle.ps_shapes.proofs.Filling.{filled_cast, filled_more}
use Rattle.ps_shapes.proofs.paper.fill_bits.Goals as goal

pub returns-then-past-ne0 : goal.returns-then-past-ne0
returns-then-past-ne0 c =
    let xs = c.args.bytes.now in
    let ys = c.fill_byte-else-low-high.new.bytes in
    let zs = c.fill_bytes.new.bytes in
    let us = c.fill_byte-then-past-ne0.new.bytes in
    let f = c.args.first in
    let p = c.args.past in
    let ink = c.args.ink in
    let m = 8 * (f / 8 + 1) in
    let n = 8 * (p / 8) in
    let a : IsFilled xs ys f m ink = filled_cast xs ys (8 * (f / 8) + f % 8) (8 * (f / 8) + 8) f m ink c.fill_byte-else-low-high.ensures (omega arith) (omega arith) in
    let b : IsFilled ys zs m n ink = c.fill_bytes.ensures in
    let d : IsFilled zs us n p ink = filled_cast zs us (8 * (p / 8) + 0) (8 * (p / 8) + p % 8) n p ink c.fill_byte-then-past-ne0.ensures (omega arith) (omega arith) in
    filled_more xs zs us f n p ink (filled_more xs ys zs f m n ink a b (omega arith) (omega arith)) d (omega arith) (omega arith)
