use Rattle.std.proofs.Common.{◌≡◌, drop}
use Rattle.ps_objects.specs.Key.{cell_of_key}
use Rattle.ps_operator.specs.Budgets.{is_local}
use Rattle.ps_operator.specs.Registers.{any_of}
use Rattle.dict_ops.proofs.copies.any_local.Given as goal

-- one of those left is local where one of all is
abbrev pub invariant-loop-at : goal.invariant-loop-at
invariant-loop-at l = any_of (λ k. is_local (cell_of_key k)) (drop l.at l.keys) ≡ any_of (λ k. is_local (cell_of_key k)) l.keys
