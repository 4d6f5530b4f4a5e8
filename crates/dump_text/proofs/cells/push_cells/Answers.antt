use Rattle.std.proofs.Common.{◌++◌, ap}
use Rattle.std.specs.Prelude.{flat_map}
use Rattle.dump_text.specs.Cells.{cell_lines, cells_of}
use Rattle.dump_text.proofs.Walk.{all_after, all_cells, fewer, one_cell}
use Rattle.dump_text.proofs.cells.push_cells.Goals as goal

pub cells-init : goal.cells-init
cells-init g c =
    let S = (g.B.Mem.log c.args.start.now).view in
    let M = (g.B.Mem.log c.args.mem.now).view in
    ap (λ cs. c.args.text.now ++ flat_map (cell_lines S M) cs) (all_after M)

pub cells-smaller : goal.cells-smaller
cells-smaller g c = fewer (g.B.Mem.log c.args.mem.now).view c.requires c.cells.last c.in-Some.cell c.in-Some.shape c.in-Some.ensures

pub cells-preserved : goal.cells-preserved
cells-preserved g c =
    let S = (g.B.Mem.log c.args.start.now).view in
    let M = (g.B.Mem.log c.args.mem.now).view in
    one_cell S M c.requires c.cells.last c.in-Some.cell c.in-Some.shape c.cells.text c.push_shape_lines.new.text (c.args.text.now ++ flat_map (cell_lines S M) (cells_of M))
    c.in-Some.ensures c.in_ok-push_shape_lines.ensures c.cells.invariant

pub returns : goal.returns
returns g c =
    let S = (g.B.Mem.log c.args.start.now).view in
    let M = (g.B.Mem.log c.args.mem.now).view in
    all_cells S M c.cells.last c.cells.text (c.args.text.now ++ flat_map (cell_lines S M) (cells_of M)) c.in_default.ensures c.cells.invariant
