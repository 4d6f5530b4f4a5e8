use Rattle.std.proofs.Common.{Ok, sym, ap, ◌∙◌}
use Rattle.array_ops.proofs.Standing.{target_items, source_items, target_bytes, source_bytes}
use Rattle.array_ops.proofs.copies.copy_part.Goals as goal

pub copy_items-requires-clause-target : goal.copy_items-requires-clause-target
copy_items-requires-clause-target g c =
    target_items c.args.state.now (g.M.Mem.log c.args.mem.now).view c.requires 0 c.in_ok-target.target c.in_ok-source.source c.in-Items.target c.in-Items.source
    (sym c.in_ok-target.ensures) (sym c.in_ok-both.ensures ∙ ap Ok c.in-Items.is)

pub copy_items-requires-clause-source : goal.copy_items-requires-clause-source
copy_items-requires-clause-source g c =
    source_items c.args.state.now (g.M.Mem.log c.args.mem.now).view c.requires 1 c.in_ok-target.target c.in_ok-source.source c.in-Items.target c.in-Items.source
    (sym c.in_ok-source.ensures) (sym c.in_ok-both.ensures ∙ ap Ok c.in-Items.is)

pub copy_bytes-requires-clause-target : goal.copy_bytes-requires-clause-target
copy_bytes-requires-clause-target g c =
    target_bytes c.args.state.now (g.M.Mem.log c.args.mem.now).view c.requires 0 c.in_ok-target.target c.in_ok-source.source c.in-Bytes.target c.in-Bytes.source
    (sym c.in_ok-target.ensures) (sym c.in_ok-both.ensures ∙ ap Ok c.in-Bytes.is)

pub copy_bytes-requires-clause-source : goal.copy_bytes-requires-clause-source
copy_bytes-requires-clause-source g c =
    source_bytes c.args.state.now (g.M.Mem.log c.args.mem.now).view c.requires 1 c.in_ok-target.target c.in_ok-source.source c.in-Bytes.target c.in-Bytes.source
    (sym c.in_ok-source.ensures) (sym c.in_ok-both.ensures ∙ ap Ok c.in-Bytes.is)
