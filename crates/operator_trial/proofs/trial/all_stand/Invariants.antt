use Rattle.std.proofs.Common.{◌≡◌, drop}
use Rattle.operator_trial.specs.Start.{all_stand}
use Rattle.operator_trial.proofs.trial.all_stand.Given as goal

-- what is left stands where all do
abbrev pub invariant-loop-depth : goal.invariant-loop-depth
invariant-loop-depth l = all_stand (drop l.depth l.operands) ≡ all_stand l.operands
