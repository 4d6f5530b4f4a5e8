use Rattle.std.proofs.Common.{◌≡◌, ◌++◌}
use Rattle.path_flat.specs.Subpaths.{curve_points}
use Rattle.path_flat.proofs.tracing.trace_curve.Given as goal

-- the points so far
abbrev pub invariant-loop-part : goal.invariant-loop-part
invariant-loop-part l = l.points ≡ l.initial.points ++ curve_points l.part l.start l.first l.second l.end
