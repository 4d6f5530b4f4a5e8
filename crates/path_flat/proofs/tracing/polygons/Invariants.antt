use Rattle.std.proofs.Common.{◌≡◌, map}
use Rattle.path_flat.specs.declared.tracing.Subpath.{Subpath}
use Rattle.path_flat.proofs.tracing.polygons.Given as goal

-- the polygons of the subpaths so far
abbrev pub invariant-loop-subpath : goal.invariant-loop-subpath
invariant-loop-subpath l = l.polygons ≡ map (λ (s : Subpath). s.points) l.yielded
