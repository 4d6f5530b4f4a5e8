use Rattle.std.proofs.Common.{◌≡◌, drop}
use Rattle.path_flat.specs.Subpaths.{traced_all, untraced}
use Rattle.path_flat.proofs.tracing.trace_all.Given as goal

-- what is left gives what the whole gives
abbrev pub invariant-loop-segment : goal.invariant-loop-segment
invariant-loop-segment l = traced_all l.tracer (drop l.segment-index l.segments) ≡ traced_all untraced l.segments
