use Rattle.std.proofs.Common.{◌≡◌, ◌++◌, ◌<◌, [], drop}
use Rattle.path_flat.specs.Flattening.{drawn_from, flattened}
use Rattle.path_flat.proofs.flattening.draw_all.Given as goal

-- a path has begun after the first segment, and what is left gives what the whole gives
abbrev pub invariant-loop-segment : goal.invariant-loop-segment
invariant-loop-segment l =
    (0 < l.segment-index → l.path ≡ [] → ⊥)
    × (l.path ++ drawn_from l.pen (drop l.segment-index l.segments) ≡ flattened l.segments)
