use Rattle.std.proofs.Common.{◌≡◌, take}
use Rattle.stroke_build.specs.Corners.{corners_of}
use Rattle.stroke_build.proofs.corner.polygon.Given as goal

abbrev pub invariant-loop-corner : goal.invariant-loop-corner
invariant-loop-corner l = corners_of l.polygon ≡ take l.corner-index l.corners
