use Rattle.std.proofs.Common.{false, sym}
use Rattle.array_ops.specs.Making.{gathers, right_bracket}
use Rattle.array_ops.proofs.Going.{does_as, bracket_goes}
use Rattle.array_ops.proofs.making.right_bracket.Goals as goal

pub returns : goal.returns
returns g c =
    let log = g.M.Mem.log in
    let s = c.args.state.now in
    let n = c.in_ok-count.count in
    does_as right_bracket (λ s. gathers s 0 n false) s c.gather.new.state (log c.args.mem.now) (log c.gather.new.mem) c.gather.result
    (bracket_goes s n (sym c.in_ok-count.ensures.value)) c.gather.ensures
