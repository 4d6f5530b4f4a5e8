use Rattle.std.proofs.Common.{◌≡◌, take}
use Rattle.stroke_build.specs.Outlines.{disc}
use Rattle.stroke_build.proofs.ring.disc.Given as goal

abbrev pub invariant-loop-corner : goal.invariant-loop-corner
invariant-loop-corner l = l.corners.items ≡ disc (take l.corner-index l.ring) l.center
