use Rattle.std.proofs.Common.{sym, ◌∙◌}
use Rattle.text_ops.proofs.Ends.{string_ends}
use Rattle.text_ops.proofs.strings.anchorsearch.Goals as goal

pub push_headed-requires-clause-ends : goal.push_headed-requires-clause-ends
push_headed-requires-clause-ends g c =
    string_ends c.args.state.now (g.M.Mem.log c.args.mem.now).view c.requires 1 c.in_ok-interval.interval (sym c.string-2.ensures ∙ c.in_ok-interval.was)
