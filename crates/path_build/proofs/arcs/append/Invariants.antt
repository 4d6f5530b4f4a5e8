use Rattle.std.proofs.Common.{◌≡◌, ◌<◌, ◌++◌, take, length}
use Rattle.path_build.specs.Arcs.{leading}
use Rattle.path_build.specs.Paths.{with_segment}
use Rattle.path_build.proofs.arcs.append.Given as goal

-- the pieces so far stand behind what leads to them
abbrev pub invariant-loop-curve : goal.invariant-loop-curve
invariant-loop-curve l = record {
  some : 0 < length l.path;
  drawn : l.path ≡ with_segment l.fn.path (leading l.fn.path l.fn.point) ++ take l.curve-index l.curves;
}
