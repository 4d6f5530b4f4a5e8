use Rattle.std.proofs.Common.{◌≡◌, ◌++◌}
use Rattle.path_flat.specs.Flattening.{curve_lines}
use Rattle.path_flat.proofs.flattening.draw_curve.Given as goal

-- the lines so far
abbrev pub invariant-loop-part : goal.invariant-loop-part
invariant-loop-part l = l.path ≡ l.initial.path ++ curve_lines l.part l.start l.first l.second l.end
