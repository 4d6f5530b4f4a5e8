-- Operators that take one of two forms by their newest operand.
use Rattle.std.proofs.Common.{◌≡◌, true, false, cond, sym, subst, Result}
use Rattle.ps_objects.specs.declared.refusal.Refusal.{Refusal}
use Rattle.ps_kinds.specs.declared.state.State.{State}
use Rattle.ps_meaning.specs.Answer.{Log}
use Rattle.ps_operator.specs.Owes.{Does}
use Rattle.ps_operator.specs.Registers.{ops}
use Rattle.ps_operator.specs.Tree.{Ask}
use Rattle.mat_ops.specs.Changing.{is_array_at, either}

-- a function does the form that the operand tells, so it does the operator
pub does_first : (t u : State → Ask) (s new : State) (old log : Log) (r : Result (Unit {0}) Refusal) → is_array_at 0 (ops s) ≡ true → Does t s old r new log → Does (either t u) s old r new log
does_first t u s new old log r e h = subst (λ b. Does (λ _. cond b (t s) (u s)) s old r new log) (sym e) h

pub does_second : (t u : State → Ask) (s new : State) (old log : Log) (r : Result (Unit {0}) Refusal) → is_array_at 0 (ops s) ≡ false → Does u s old r new log → Does (either t u) s old r new log
does_second t u s new old log r e h = subst (λ b. Does (λ _. cond b (t s) (u s)) s old r new log) (sym e) h
