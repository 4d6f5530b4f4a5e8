use Rattle.std.proofs.Common.{◌<◌, sym, ◌∙◌, arith}
use Rattle.array_ops.specs.Making.{names_local}
use Rattle.array_ops.proofs.Gathering.{run_hit, run_miss}
use Rattle.array_ops.proofs.making.any_local.Goals as goal

pub returns-then-names_local : goal.returns-then-names_local
returns-then-names_local c =
    let l : c.loop-n.n < c.args.count = omega (arith, c.loop-n-test.true) in
    sym (run_hit c.args.below c.args.count c.args.operands.now c.requires.there names_local c.loop-n.n c.at.result.now l c.at.ensures (sym c.names_local.ensures ∙ c.if-names_local.true)) ∙ c.loop-n.invariant

pub loop-n-preserved : goal.loop-n-preserved
loop-n-preserved c =
    let l : c.loop-n.n < c.args.count = omega (arith, c.loop-n-test.true) in
    sym (run_miss c.args.below c.args.count c.args.operands.now c.requires.there names_local c.loop-n.n c.at.result.now l c.at.ensures (sym c.names_local.ensures ∙ c.if-names_local.false)) ∙ c.loop-n.invariant
