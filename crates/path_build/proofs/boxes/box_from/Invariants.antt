use Rattle.std.proofs.Common.{◌≡◌, drop}
use Rattle.path_build.specs.Boxes.{box_from}
use Rattle.path_build.proofs.boxes.box_from.Given as goal

-- what is left gives what the whole gives
abbrev pub invariant-loop-segment : goal.invariant-loop-segment
invariant-loop-segment l = box_from l.extent (drop l.segment-index l.segments) ≡ box_from l.fn.first l.segments
