-- A piece that is refused refuses the whole.
use Rattle.std.proofs.Common.{rules}
use Rattle.path_build.proofs.Pieces.{piece_refused}
use Rattle.path_build.proofs.arcs.pieces.Goals as goal

pub returns-in-Err : goal.returns-in-Err
returns-in-Err c =
    piece_refused c.args.matrix.now c.args.arc.now c.loop-n.n c.args.arc.now.pieces c.loop-n.curves.items (search rules) _ c.piece.result c.in-Err.error c.loop-n.invariant c.piece.ensures (search rules)
