-- The operators and the steps of this crate.
use Rattle.std.specs.Prelude.{◌≡◌, ℕ, Bool, false, ◌&&◌, nat_le, [], ◌∷◌}
use Rattle.ps_names.specs.declared.places.TheConstants as at
use Rattle.ps_kinds.specs.declared.act.Act.TheVariants as act
use Rattle.ps_kinds.specs.declared.frame.Frame.{Frame}
use Rattle.ps_kinds.specs.declared.state.State.{State}
use Rattle.ps_meaning.specs.Answer.{act_done, newest}
use Rattle.ps_operator.specs.Tree.{Ask}
use Rattle.ps_operator.specs.Lawful.{IsLawful}
use Rattle.ps_operator.specs.Operators.{Operators, run_in}
use Rattle.ps_execution.specs.Frames.{costs}
use Rattle.ps_execution.specs.Machine.{Effects, LeavesCalm}
use Rattle.ps_table.specs.Table.{IsLawfulStep}
use Rattle.control_ops.specs.Executing.{exec, if_, ifelse, stopped}
use Rattle.control_ops.specs.Leaving.{exit, stop, quit}
use Rattle.control_ops.specs.Loops.{for_, repeat, loop_, forall_}
use Rattle.control_ops.specs.Rounds.{step}

-- all of them
abbrev pub operators : Operators
operators =
    (at.EXEC, exec) ∷ (at.IF, if_) ∷ (at.IFELSE, ifelse) ∷ (at.FOR, for_) ∷ (at.REPEAT, repeat)
    ∷ (at.LOOP, loop_) ∷ (at.FORALL, forall_) ∷ (at.EXIT, exit) ∷ (at.STOP, stop)
    ∷ (at.QUIT, quit) ∷ (at.STOPPED, stopped) ∷ []

-- they stand together in the list of operators
abbrev pub belongs : ℕ → Bool
belongs n = nat_le at.EXEC n && nat_le n at.STOPPED

-- what the operator at a place does
abbrev pub run : ℕ → State → Ask
run n s = run_in operators n s

-- each operator keeps the states that fit, and so does each step
abbrev pub OperatorsLaw : Type 0
OperatorsLaw = (n : ℕ) → IsLawful (run n)

-- each step keeps the states that fit, and takes no names
abbrev pub StepsLaw : Type 0
StepsLaw = (f : Frame) → IsLawfulStep f (λ text s. step f s)

-- a step that costs no turn ends its frame and begins nothing
abbrev pub SteadyLaw : Type 0
SteadyLaw = (f : Frame) (s : State) → costs f ≡ false
    → Effects (λ e. (act_done e.act ≡ act.Done) × LeavesCalm f (newest e.frames)) (step f s)
