use Rattle.std.proofs.Common.{◌≡◌, ◌*◌, [], drop}
use Rattle.paint_ops.specs.Rectangles.{drawn_behind}
use Rattle.paint_ops.proofs.rectangles.path_of.Given as goal

-- the numbers that are left draw what all draw
abbrev pub invariant-loop-n : goal.invariant-loop-n
invariant-loop-n l = drawn_behind l.matrix l.path (drop (4 * l.n) l.numbers) ≡ drawn_behind l.matrix [] l.numbers
