use Rattle.std.proofs.Common.{◌≡◌, [], sym, subst}
use Rattle.ps_kinds.specs.declared.state.State.{State}
use Rattle.ps_meaning.specs.Ready.{ReadyIn}
use Rattle.ps_meaning.specs.Start.{start_memory}
use Rattle.operator_trial.specs.Start.{page_settings, begun}
use Rattle.operator_trial.proofs.Starting.{begun_ready}
use Rattle.operator_trial.proofs.trial.begin.Goals as goal

pub returns : goal.returns
returns c =
    let e : c.in_ok-state.state ≡ begun c.args.operands = c.in_ok-state.ensures in
    let m : c.in_ok-memory.memory ≡ start_memory page_settings = c.in_ok-memory.ensures in
    subst (λ s. ReadyIn [] s c.in_ok-memory.memory) (sym e) (begun_ready c.args.operands c.in_ok-memory.memory m c.requires)
