-- The bits that are left give the same root from here.
use Rattle.std.proofs.Common.{◌≡◌, ◌+◌, ◌-◌, ◌^◌, ◌≤◌}
use Rattle.ps_fixed.specs.Roots.{root_from}
use Rattle.stroke_build.proofs.pen.root.Given as goal

abbrev pub invariant-loop-left : goal.invariant-loop-left
invariant-loop-left l = record {
  bound : l.root + 2 ^ (64 - l.left) ≤ 2 ^ 64;
  same : root_from (64 - l.left) l.n l.root ≡ root_from 64 l.n 0;
}
