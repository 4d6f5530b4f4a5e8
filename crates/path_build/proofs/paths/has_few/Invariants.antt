use Rattle.std.proofs.Common.{◌≡◌, drop}
use Rattle.path_build.specs.Paths.{has_few}
use Rattle.path_build.proofs.paths.has_few.Given as goal

-- what is left is few enough exactly where the whole is
abbrev pub invariant-loop-segment : goal.invariant-loop-segment
invariant-loop-segment l = has_few l.left (drop l.segment-index l.segments) ≡ has_few l.most l.segments
