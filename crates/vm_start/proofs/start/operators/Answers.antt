use Rattle.std.proofs.Common.{arith, ap, sym, ◌∙◌, slice_get}
use Rattle.ps_names.specs.Operators.{operator_names}
use Rattle.ps_meaning.specs.Start.{operator}
use Rattle.vm_start.proofs.StartSteps.{operator_put}
use Rattle.vm_start.proofs.start.operators.Goals as goal

pub loop-index-preserved : goal.loop-index-preserved
loop-index-preserved c = record {
  low = omega arith;
  high = omega arith;
  made = operator_put c.loop-index.index c.args.to c.op_name.result.now c.operator.result _ _ c.in_ok-put.ensures (c.operator.ensures ∙ ap operator c.at-op.ensures) c.loop-index.invariant.made (sym (ap (slice_get operator_names) c.at-op.ensures) ∙ c.op_name.ensures.name) (omega arith) c.loop-index.invariant.high;
}
