use Rattle.std.proofs.Common.{◌≡◌, ◌++◌, length}
use Rattle.std.specs.Prelude.{flat_map}
use Rattle.dump_text.specs.Cells.{cell_lines, cells_of}
use Rattle.dump_text.proofs.Walk.{cells_after}
use Rattle.dump_text.proofs.cells.push_cells.Given as goal

-- what comes after the last gives, behind the text, what the whole gives
abbrev pub invariant-cells : goal.invariant-cells
invariant-cells g l =
    let S = (g.B.Mem.log l.start).view in
    let M = (g.B.Mem.log l.mem).view in
    l.text ++ flat_map (cell_lines S M) (cells_after M l.last) ≡ l.fn.text ++ flat_map (cell_lines S M) (cells_of M)

abbrev pub decreases-cells : goal.decreases-cells
decreases-cells g l = length (cells_after (g.B.Mem.log l.mem).view l.last)
