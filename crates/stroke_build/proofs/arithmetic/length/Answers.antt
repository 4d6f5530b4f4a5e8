-- The root of the sum of the squares.
use Rattle.std.proofs.Common.{arith, rules, w64}
use Rattle.std.specs.Prelude.{unsigned_abs}
use mir.Val.{SFits}
use Rattle.std.proofs.lemmas.Int.{to_z-of_z}
use Rattle.stroke_build.proofs.Quotients.{length_by, across_by, down_by_root}
use Rattle.stroke_build.proofs.arithmetic.length.Goals as goal

pub returns-clause-value : goal.returns-clause-value
returns-clause-value c =
    let f : SFits w64 c.args.dx = search rules in
    let g : SFits w64 c.args.dy = search rules in
    let e = simp to_z-of_z at c.squares.ensures in
    length_by c.root.result c.squares.result c.args.dx c.args.dy (omega arith) e c.root.ensures.root

pub returns-clause-across : goal.returns-clause-across
returns-clause-across c =
    let f : SFits w64 c.args.dx = search rules in
    let g : SFits w64 c.args.dy = search rules in
    let e = simp to_z-of_z at c.squares.ensures in
    across_by c.root.result c.squares.result (unsigned_abs c.args.dx) (unsigned_abs c.args.dy) e c.root.ensures.root

pub returns-clause-down : goal.returns-clause-down
returns-clause-down c =
    let f : SFits w64 c.args.dx = search rules in
    let g : SFits w64 c.args.dy = search rules in
    let e = simp to_z-of_z at c.squares.ensures in
    down_by_root c.root.result c.squares.result (unsigned_abs c.args.dx) (unsigned_abs c.args.dy) e c.root.ensures.root
