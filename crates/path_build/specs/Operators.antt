-- The operators and the steps of this crate.
use Rattle.std.specs.Prelude.{◌≡◌, ℕ, Bool, false, ◌&&◌, ◌||◌, nat_le, nat_eq, [], ◌∷◌}
use Rattle.ps_names.specs.declared.places.TheConstants as at
use Rattle.ps_kinds.specs.declared.act.Act.TheVariants as act
use Rattle.ps_kinds.specs.declared.frame.Frame.{Frame}
use Rattle.ps_kinds.specs.declared.state.State.{State}
use Rattle.ps_meaning.specs.Answer.{act_done, newest}
use Rattle.ps_operator.specs.Tree.{Ask}
use Rattle.ps_operator.specs.Lawful.{IsLawful}
use Rattle.ps_operator.specs.Operators.{Operators, run_in}
use Rattle.ps_execution.specs.Frames.{costs}
use Rattle.ps_execution.specs.Machine.{Effects, LeavesCalm}
use Rattle.ps_table.specs.Table.{IsLawfulStep}
use Rattle.path_build.specs.Building.{newpath, currentpoint, moveto, rmoveto, lineto, rlineto, curveto, rcurveto, closepath}
use Rattle.path_build.specs.Arcs.{arc, arcn}
use Rattle.path_build.specs.Boxes.{pathbbox}
use Rattle.path_build.specs.Walks.{pathforall, step}

-- all of them
abbrev pub operators : Operators
operators =
    (at.NEWPATH, newpath) ∷ (at.CURRENTPOINT, currentpoint) ∷ (at.MOVETO, moveto) ∷ (at.RMOVETO, rmoveto)
    ∷ (at.LINETO, lineto) ∷ (at.RLINETO, rlineto) ∷ (at.CURVETO, curveto) ∷ (at.RCURVETO, rcurveto)
    ∷ (at.ARC, arc) ∷ (at.ARCN, arcn) ∷ (at.CLOSEPATH, closepath) ∷ (at.PATHBBOX, pathbbox)
    ∷ (at.PATHFORALL, pathforall) ∷ []

-- they stand in two parts of the list of operators
abbrev pub belongs : ℕ → Bool
belongs n = nat_le at.NEWPATH n && nat_le n at.CLOSEPATH || nat_le at.PATHBBOX n && nat_le n at.PATHFORALL

-- they always end with Done
abbrev pub ends_done : ℕ → Bool
ends_done n = nat_le at.NEWPATH n && nat_le n at.CLOSEPATH || nat_eq n at.PATHBBOX

-- what the operator at a place does
abbrev pub run : ℕ → State → Ask
run n s = run_in operators n s

-- each operator keeps the states that fit
abbrev pub OperatorsLaw : Type 0
OperatorsLaw = (n : ℕ) → IsLawful (run n)

-- each step keeps the states that fit, and takes no names
abbrev pub StepsLaw : Type 0
StepsLaw = (f : Frame) → IsLawfulStep f (λ text s. step f s)

-- a step that costs no turn ends its frame and begins nothing
abbrev pub SteadyLaw : Type 0
SteadyLaw = (f : Frame) (s : State) → costs f ≡ false
    → Effects (λ e. (act_done e.act ≡ act.Done) × LeavesCalm f (newest e.frames)) (step f s)
