use Rattle.std.proofs.Common.{◌≡◌, [], drop}
use Rattle.paint_ops.specs.Rectangles.{reals_behind}
use Rattle.paint_ops.proofs.rectangles.reals_of.Given as goal

-- the items that are left tell what all tell
abbrev pub invariant-loop-at : goal.invariant-loop-at
invariant-loop-at l = reals_behind l.reals (drop l.at l.items) ≡ reals_behind [] l.items
