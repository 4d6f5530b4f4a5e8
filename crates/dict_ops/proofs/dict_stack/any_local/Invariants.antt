use Rattle.std.proofs.Common.{◌≡◌, Some, drop}
use Rattle.ps_operator.specs.Budgets.{is_local}
use Rattle.ps_operator.specs.Registers.{any_of}
use Rattle.dict_ops.proofs.dict_stack.any_local.Given as goal

-- one of those left is local where one of all is
abbrev pub invariant-loop-depth : goal.invariant-loop-depth
invariant-loop-depth l = any_of (λ d. is_local (Some d)) (drop l.depth l.dicts) ≡ any_of (λ d. is_local (Some d)) l.dicts
