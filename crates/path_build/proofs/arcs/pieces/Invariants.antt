use Rattle.std.proofs.Common.{◌≡◌, ◌-◌, []}
use Rattle.path_build.specs.Arcs.{pieces_from}
use Rattle.path_build.proofs.arcs.pieces.Given as goal

-- what is left gives what the whole gives
abbrev pub invariant-loop-n : goal.invariant-loop-n
invariant-loop-n l = pieces_from l.matrix l.arc l.n (l.arc.pieces - l.n) l.curves.items ≡ pieces_from l.matrix l.arc 0 l.arc.pieces []
