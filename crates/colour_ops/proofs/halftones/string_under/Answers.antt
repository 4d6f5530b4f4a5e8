use Rattle.std.proofs.Common.{sym, ap}
use Rattle.ps_meaning.specs.Answer.{Log}
use Rattle.colour_ops.proofs.Named.{string_named}
use Rattle.colour_ops.proofs.halftones.string_under.Goals as goal

pub returns-clause-string : goal.returns-clause-string
returns-clause-string g c =
    let log = g.M.Mem.log in
    string_named c.args.state.now (log c.args.mem.now).view (log c.look_entry.new.mem).view (ap (λ (l : Log). l.view) c.in_ok-look_entry.ensures.looked) c.requires.ready
    c.args.dict _ _ c.in_ok-string.string c.in_ok-look_entry.ensures.value (sym c.in_ok-string.ensures)
