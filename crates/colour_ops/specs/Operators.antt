-- The operators of this crate.
use Rattle.std.specs.Prelude.{ℕ, Bool, ◌&&◌, nat_le, [], ◌∷◌}
use Rattle.ps_names.specs.declared.places.TheConstants as at
use Rattle.ps_kinds.specs.declared.state.State.{State}
use Rattle.ps_operator.specs.Tree.{Ask}
use Rattle.ps_operator.specs.Lawful.{IsLawful}
use Rattle.ps_operator.specs.Operators.{Operators, run_in}
use Rattle.colour_ops.specs.Setting.{setgray, setrgbcolor, setcmykcolor, setcolor}
use Rattle.colour_ops.specs.Setting.{currentgray, currentrgbcolor, currentcmykcolor, currentcolor}
use Rattle.colour_ops.specs.Spaces.{setcolorspace, currentcolorspace}
use Rattle.colour_ops.specs.Screens.{setscreen, currentscreen, settransfer, currenttransfer}
use Rattle.colour_ops.specs.Halftones.{sethalftone, currenthalftone}

-- all of them
abbrev pub operators : Operators
operators =
    (at.SETGRAY, setgray) ∷ (at.SETRGBCOLOR, setrgbcolor) ∷ (at.SETCMYKCOLOR, setcmykcolor)
    ∷ (at.CURRENTGRAY, currentgray) ∷ (at.CURRENTRGBCOLOR, currentrgbcolor)
    ∷ (at.CURRENTCMYKCOLOR, currentcmykcolor) ∷ (at.SETCOLORSPACE, setcolorspace)
    ∷ (at.CURRENTCOLORSPACE, currentcolorspace) ∷ (at.SETCOLOR, setcolor)
    ∷ (at.CURRENTCOLOR, currentcolor) ∷ (at.SETSCREEN, setscreen)
    ∷ (at.CURRENTSCREEN, currentscreen) ∷ (at.SETTRANSFER, settransfer)
    ∷ (at.CURRENTTRANSFER, currenttransfer) ∷ (at.SETHALFTONE, sethalftone)
    ∷ (at.CURRENTHALFTONE, currenthalftone) ∷ []

-- they stand together in the list of operators
abbrev pub belongs : ℕ → Bool
belongs n = nat_le at.SETGRAY n && nat_le n at.CURRENTHALFTONE

-- what the operator at a place does
abbrev pub run : ℕ → State → Ask
run n s = run_in operators n s

-- each keeps the states that fit
abbrev pub OperatorsLaw : Type 0
OperatorsLaw = (n : ℕ) → IsLawful (run n)
