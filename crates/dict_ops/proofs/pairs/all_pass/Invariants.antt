use Rattle.std.proofs.Common.{◌≡◌, ◌-◌}
use Rattle.dict_ops.specs.Pairs.{each_passes, all_pass}
use Rattle.dict_ops.proofs.pairs.all_pass.Given as goal

-- those left pass where all do
abbrev pub invariant-loop-n : goal.invariant-loop-n
invariant-loop-n l = each_passes l.stage l.operands l.n (l.pairs - l.n) ≡ all_pass l.stage l.operands l.pairs
