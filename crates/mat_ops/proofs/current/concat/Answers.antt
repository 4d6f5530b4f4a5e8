-- The answer where nothing is refused.
use Rattle.std.proofs.Common.{sym}
use Rattle.mat_ops.proofs.Concatenating.{concat_answer}
use Rattle.mat_ops.proofs.current.concat.Goals as goal

pub returns : goal.returns
returns g c =
    let log = g.M.Mem.log in
    concat_answer c.args.state.now c.in_ok-array.array c.in_ok-matrix.matrix c.in_ok-product.product (log c.args.mem.now) (log c.look_matrix.new.mem) c.shrink.new.self c.set_matrix.new.graphics
    (sym c.in_ok-need.ensures) (sym c.in_ok-array.ensures) (sym c.in_ok-readable.ensures) (sym c.in_ok-six.ensures) c.in_ok-matrix.ensures.told (sym c.in_ok-product.ensures) c.shrink.ensures c.set_matrix.ensures
