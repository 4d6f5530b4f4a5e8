use Rattle.std.proofs.Common.{◌≡◌, ◌-◌, ◌*◌, ◌^◌, ◌%◌, ◌≤◌, arith}
use Rattle.ps_shapes.proofs.Masks.{mask_order, mask_small, shifted}
use Rattle.ps_shapes.proofs.paper.mask.Goals as goal

pub overflow_sub-result-3 : goal.overflow_sub-result-3
overflow_sub-result-3 c = rw (shifted (8 - c.args.past) (omega arith), shifted (8 - c.args.first) (omega arith)) (mask_order c.args.first c.args.past c.requires.first)
