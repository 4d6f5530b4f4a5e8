use Rattle.std.proofs.Common.{◌≡◌, ◌+◌, ◌≤◌, drop}
use Rattle.path_flat.specs.Limits.{flat_points}
use Rattle.path_flat.proofs.limit.flattens_within_limit.Given as goal

-- the points so far, and those of what is left
abbrev pub invariant-loop-segment : goal.invariant-loop-segment
invariant-loop-segment l = (l.points ≤ 100000) × (l.points + flat_points (drop l.segment-index l.segments) ≡ flat_points l.segments)
