use Rattle.std.proofs.Common.{◌∙◌, ap, ◌++◌, [], ◌∷◌}
use Rattle.stroke_build.specs.declared.vector.Vector.{Vector}
use Rattle.stroke_build.proofs.Outlining.{ring_more}
use Rattle.stroke_build.proofs.ring.ring.Goals as goal

pub loop-j-preserved : goal.loop-j-preserved
loop-j-preserved c =
    ring_more c.args.radius c.loop-j.j c.loop-j.corners.items _ c.loop-j.invariant
    (c.in_ok-push.ensures.items ∙ ap (λ (v : Vector). c.loop-j.corners.items ++ v ∷ []) c.ring_corner.ensures)
