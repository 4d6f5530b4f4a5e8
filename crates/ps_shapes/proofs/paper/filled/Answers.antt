use Rattle.std.proofs.Common.{◌≡◌, bit_and, bit_or, ◌-◌}
use Rattle.ps_shapes.proofs.Masks.{set_bit, clear_bit}
use Rattle.ps_shapes.proofs.paper.filled.Goals as goal

pub returns-then-ink : goal.returns-then-ink
returns-then-ink c = λ k h. rw (c.if-ink.true, c.mask-mask.ensures) (set_bit c.args.byte c.args.first c.args.past k c.requires.past h)

pub returns-else-ink : goal.returns-else-ink
returns-else-ink c = λ k h. rw (c.if-ink.false, c.mask-mask.ensures) (clear_bit c.args.byte c.args.first c.args.past k c.requires.past h)
