use Rattle.std.proofs.Common.{◌≡◌, drop, reverse}
use Rattle.path_build.specs.Paths.{start_behind}
use Rattle.path_build.proofs.paths.start_of.Given as goal

-- what is left begins where the whole does
abbrev pub invariant-loop-back : goal.invariant-loop-back
invariant-loop-back l = start_behind (drop l.back (reverse l.segments)) ≡ start_behind (reverse l.segments)
