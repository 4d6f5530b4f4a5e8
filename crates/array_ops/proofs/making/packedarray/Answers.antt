use Rattle.std.proofs.Common.{true, sym}
use Rattle.array_ops.specs.Making.{gathers, packedarray}
use Rattle.array_ops.proofs.Going.{does_as, packed_goes}
use Rattle.array_ops.proofs.making.packedarray.Goals as goal

pub returns : goal.returns
returns g c =
    let log = g.M.Mem.log in
    let s = c.args.state.now in
    let n = c.in_ok-count.field-0 in
    does_as packedarray (λ s. gathers s 1 n true) s c.gather.new.state (log c.args.mem.now) (log c.gather.new.mem) c.gather.result
    (packed_goes s n (sym c.in_ok-need.ensures) (sym c.in_ok-count.ensures) (sym c.in_ok-need-2.ensures)) c.gather.ensures
