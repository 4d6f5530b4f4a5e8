use Rattle.std.proofs.Common.{◌+◌, sym, subst}
use Rattle.ps_kinds.specs.declared.state.State.{State}
use Rattle.ps_gather.specs.Ended.{spelt_of}
use Rattle.ps_reader.specs.Reading.{Reads}
use Rattle.ps_reader.proofs.Ending.{read_ends}
use Rattle.ps_reader.proofs.reading.read.Goals as goal

pub returns : goal.returns
returns g c =
    let log = g.M.Mem.log in
    let s = c.args.state.now in
    let d = c.in_ok-scanned.scanned in
    subst (λ (t : State). Reads c.args.bytes.now c.args.place s (log c.args.mem.now) (record { spelt = spelt_of d.spelt; place = d.place; state = t }) (log c.make_cells.new.mem)) (sym c.pass.ensures)
    (subst (λ n. Reads c.args.bytes.now c.args.place s (log c.args.mem.now) (record { spelt = spelt_of d.spelt; place = d.place; state = record s { count = s.count + n; units = d.units } }) (log c.make_cells.new.mem)) (sym c.len.ensures)
    (read_ends s d c.args.bytes.now c.args.place (log c.args.mem.now) (log c.scan.new.mem) (log c.make_cells.new.mem) c.in_ok-scanned.ensures.scans c.in_ok-make_cells.ensures))
