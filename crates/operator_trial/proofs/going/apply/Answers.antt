use Rattle.std.proofs.Common.{◌≡◌, ◌≤◌, ◌^◌, true, nat_le, arith}
use Rattle.std.proofs.lemmas.Bool.Decides.{nat_tests}
use Rattle.stack_arith.proofs.Keeping.{run_keeps}
use Rattle.operator_trial.proofs.Onward.{few, run_ready}
use Rattle.operator_trial.proofs.going.apply.Goals as goal

pub returns : goal.returns
returns c = λ l. run_ready c.args.trial.now.state c.args.trial.now.memory c.requires run_keeps c.args.op c.in_ok-act.act c.run.new.state c.run.new.mem c.in_ok-act.ensures (few c.run.new.state.count l)
