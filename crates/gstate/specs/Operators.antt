-- The operators of this crate.
use Rattle.std.specs.Prelude.{ℕ, Bool, ◌&&◌, nat_le, [], ◌∷◌}
use Rattle.ps_names.specs.declared.places.TheConstants as at
use Rattle.ps_kinds.specs.declared.state.State.{State}
use Rattle.ps_operator.specs.Tree.{Ask}
use Rattle.ps_operator.specs.Lawful.{IsLawful}
use Rattle.ps_operator.specs.Operators.{Operators, run_in}
use Rattle.gstate.specs.Beginning.{initgraphics}
use Rattle.gstate.specs.Dashes.{setdash, currentdash}
use Rattle.gstate.specs.Layers.{gsave, grestore, grestoreall}
use Rattle.gstate.specs.Lines.{setlinewidth, setlinecap, setlinejoin, setmiterlimit, setflat, setstrokeadjust, currentlinewidth, currentlinecap, currentlinejoin, currentmiterlimit, currentflat, currentstrokeadjust}

-- all of them
abbrev pub operators : Operators
operators =
    (at.GSAVE, gsave) ∷ (at.GRESTORE, grestore) ∷ (at.GRESTOREALL, grestoreall)
    ∷ (at.INITGRAPHICS, initgraphics) ∷ (at.SETLINEWIDTH, setlinewidth) ∷ (at.SETLINECAP, setlinecap)
    ∷ (at.SETLINEJOIN, setlinejoin) ∷ (at.SETMITERLIMIT, setmiterlimit) ∷ (at.SETFLAT, setflat)
    ∷ (at.SETSTROKEADJUST, setstrokeadjust) ∷ (at.CURRENTLINEWIDTH, currentlinewidth)
    ∷ (at.CURRENTLINECAP, currentlinecap) ∷ (at.CURRENTLINEJOIN, currentlinejoin)
    ∷ (at.CURRENTMITERLIMIT, currentmiterlimit) ∷ (at.CURRENTFLAT, currentflat)
    ∷ (at.CURRENTSTROKEADJUST, currentstrokeadjust) ∷ (at.SETDASH, setdash)
    ∷ (at.CURRENTDASH, currentdash) ∷ []

-- they stand together in the list of operators
abbrev pub belongs : ℕ → Bool
belongs n = nat_le at.GSAVE n && nat_le n at.CURRENTDASH

-- what the operator at a place does
abbrev pub run : ℕ → State → Ask
run n s = run_in operators n s

-- each keeps the states that fit
abbrev pub OperatorsLaw : Type 0
OperatorsLaw = (n : ℕ) → IsLawful (run n)
