-- By the lemma of one error.
use Rattle.std.proofs.Common.{subst, true}
use Rattle.ps_execution.specs.Execution.{failed}
use Rattle.ps_steps.specs.Operators.{CountsTurn}
use Rattle.ps_steps.proofs.Raises.{entered_ready}
use Rattle.ps_steps.proofs.raising.raise.Goals as goal

pub run_value-requires-clause-ready : goal.run_value-requires-clause-ready
run_value-requires-clause-ready g c =
    let counts : CountsTurn true (failed c.args.object c.args.state.now) c.take_turn.new.state = subst (λ u. CountsTurn true u c.take_turn.new.state) c.in_ok-push_failed.ensures c.if-not-take_turn.ensures in
    entered_ready 1 c.args.text.now c.args.state.now c.take_turn.new.state c.args.object (g.M.Mem.log c.args.mem.now) (g.M.Mem.log c.entry.new.mem) c.args.error counts c.in_ok-entry.ensures.log c.requires.ready c.requires.fits
