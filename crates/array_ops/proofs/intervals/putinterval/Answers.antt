use Rattle.std.proofs.Common.{Ok, sym, ap, ◌∙◌}
use Rattle.array_ops.proofs.Standing.{target_items, source_items, target_bytes, source_bytes}
use Rattle.array_ops.specs.Intervals.{put_move, putinterval}
use Rattle.array_ops.specs.declared.intervals.Move.TheVariants as move
use Rattle.array_ops.proofs.Going.{does_as, interval_goes}
use Rattle.array_ops.proofs.intervals.putinterval.Goals as goal

pub put_items-requires-clause-target : goal.put_items-requires-clause-target
put_items-requires-clause-target g c =
    target_items c.args.state.now (g.M.Mem.log c.args.mem.now).view c.requires 2 c.in_ok-target.target c.in_ok-source.source c.in-Items.target c.in-Items.source
    (sym c.in_ok-target.ensures) (sym c.in_ok-both.ensures ∙ ap Ok c.in-Items.is)

pub put_items-requires-clause-source : goal.put_items-requires-clause-source
put_items-requires-clause-source g c =
    source_items c.args.state.now (g.M.Mem.log c.args.mem.now).view c.requires 0 c.in_ok-target.target c.in_ok-source.source c.in-Items.target c.in-Items.source
    (sym c.in_ok-source.ensures) (sym c.in_ok-both.ensures ∙ ap Ok c.in-Items.is)

pub put_bytes-requires-clause-target : goal.put_bytes-requires-clause-target
put_bytes-requires-clause-target g c =
    target_bytes c.args.state.now (g.M.Mem.log c.args.mem.now).view c.requires 2 c.in_ok-target.target c.in_ok-source.source c.in-Bytes.target c.in-Bytes.source
    (sym c.in_ok-target.ensures) (sym c.in_ok-both.ensures ∙ ap Ok c.in-Bytes.is)

pub put_bytes-requires-clause-source : goal.put_bytes-requires-clause-source
put_bytes-requires-clause-source g c =
    source_bytes c.args.state.now (g.M.Mem.log c.args.mem.now).view c.requires 0 c.in_ok-target.target c.in_ok-source.source c.in-Bytes.target c.in-Bytes.source
    (sym c.in_ok-source.ensures) (sym c.in_ok-both.ensures ∙ ap Ok c.in-Bytes.is)

pub returns-in-Items : goal.returns-in-Items
returns-in-Items g c =
    let log = g.M.Mem.log in
    let s = c.args.state.now in
    let m = move.Items c.in-Items.target c.in-Items.source in
    does_as putinterval (λ s. put_move s m) s c.put_items.new.state (log c.args.mem.now) (log c.put_items.new.mem) c.put_items.result
    (interval_goes s c.in_ok-integer.field-0 c.in_ok-source.source c.in_ok-target.target m (sym c.in_ok-need.ensures) (sym c.in_ok-source.ensures) (sym c.in_ok-integer.ensures) (sym c.in_ok-target.ensures)
    (sym c.in_ok-both.ensures ∙ ap Ok c.in-Items.is) (sym c.in_ok-readable.ensures) (sym c.in_ok-writable.ensures)) c.put_items.ensures

pub returns-in-Bytes : goal.returns-in-Bytes
returns-in-Bytes g c =
    let log = g.M.Mem.log in
    let s = c.args.state.now in
    let m = move.Bytes c.in-Bytes.target c.in-Bytes.source in
    does_as putinterval (λ s. put_move s m) s c.put_bytes.new.state (log c.args.mem.now) (log c.put_bytes.new.mem) c.put_bytes.result
    (interval_goes s c.in_ok-integer.field-0 c.in_ok-source.source c.in_ok-target.target m (sym c.in_ok-need.ensures) (sym c.in_ok-source.ensures) (sym c.in_ok-integer.ensures) (sym c.in_ok-target.ensures)
    (sym c.in_ok-both.ensures ∙ ap Ok c.in-Bytes.is) (sym c.in_ok-readable.ensures) (sym c.in_ok-writable.ensures)) c.put_bytes.ensures
