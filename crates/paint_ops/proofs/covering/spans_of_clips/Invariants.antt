use Rattle.std.proofs.Common.{take}
use Rattle.paint_ops.specs.Covering.{HoldClips}
use Rattle.paint_ops.proofs.covering.spans_of_clips.Given as goal

-- the clips so far
abbrev pub invariant-loop-clip : goal.invariant-loop-clip
invariant-loop-clip l = HoldClips l.width l.height (take l.clip-index l.clip-items) l.lists
