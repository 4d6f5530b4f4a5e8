use Rattle.std.proofs.Common.{sym, subst, ◌∙◌}
use Rattle.ps_scan.proofs.ShortLemmas.{ScansShort, at_short}
use Rattle.ps_gather.proofs.scanning.step.Goals as goal

pub take-requires-clause-short : goal.take-requires-clause-short
take-requires-clause-short g c = subst ScansShort (sym c.in_ok-token.ensures.token ∙ c.in-Token.is) (at_short c.args.bytes.now c.args.place)
