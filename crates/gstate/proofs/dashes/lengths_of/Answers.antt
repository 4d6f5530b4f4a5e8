use Rattle.std.proofs.Common.{sym}
use Rattle.gstate.proofs.Dashing.{length_refused}
use Rattle.gstate.proofs.dashes.lengths_of.Goals as goal

pub returns-in-Err-clause-value : goal.returns-in-Err-clause-value
returns-in-Err-clause-value c =
    length_refused c.loop-at.lengths c.args.items.now c.loop-at.at c.at.result.now c.at.ensures
    c.in-Err.error (sym c.in-Err.ensures.value) c.loop-at.invariant.told
