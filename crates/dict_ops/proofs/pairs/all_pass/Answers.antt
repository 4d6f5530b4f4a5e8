use Rattle.std.proofs.Common.{◌≡◌, ◌<◌, sym, ◌∙◌, arith}
use Rattle.dict_ops.proofs.Reading.{pass_refused}
use Rattle.dict_ops.proofs.pairs.all_pass.Goals as goal

pub returns-in-Err : goal.returns-in-Err
returns-in-Err c =
    let l : c.loop-n.n < c.args.pairs = omega (arith, c.loop-n-test.true) in
    sym (pass_refused c.args.stage c.args.operands.now c.loop-n.n c.args.pairs c.in-Err.error l (sym c.in-Err.ensures)) ∙ c.loop-n.invariant
