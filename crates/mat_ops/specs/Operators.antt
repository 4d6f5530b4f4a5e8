-- The operators of this crate.
use Rattle.std.specs.Prelude.{ℕ, Bool, ◌&&◌, nat_le, [], ◌∷◌}
use Rattle.ps_names.specs.declared.places.TheConstants as at
use Rattle.ps_kinds.specs.declared.state.State.{State}
use Rattle.ps_operator.specs.Tree.{Ask}
use Rattle.ps_operator.specs.Lawful.{IsLawful}
use Rattle.ps_operator.specs.Operators.{Operators, run_in}
use Rattle.mat_ops.specs.Arrays.{matrix, identmatrix, defaultmatrix, currentmatrix, concatmatrix, invertmatrix}
use Rattle.mat_ops.specs.Carrying.{transform, dtransform, itransform, idtransform}
use Rattle.mat_ops.specs.Changing.{translate, scale, rotate}
use Rattle.mat_ops.specs.Current.{setmatrix, initmatrix, concat}

-- all of them
abbrev pub operators : Operators
operators =
    (at.MATRIX, matrix) ∷ (at.IDENTMATRIX, identmatrix) ∷ (at.DEFAULTMATRIX, defaultmatrix)
    ∷ (at.CURRENTMATRIX, currentmatrix) ∷ (at.SETMATRIX, setmatrix)
    ∷ (at.INITMATRIX, initmatrix) ∷ (at.TRANSLATE, translate) ∷ (at.SCALE, scale)
    ∷ (at.ROTATE, rotate) ∷ (at.CONCAT, concat) ∷ (at.CONCATMATRIX, concatmatrix)
    ∷ (at.INVERTMATRIX, invertmatrix) ∷ (at.TRANSFORM, transform)
    ∷ (at.DTRANSFORM, dtransform) ∷ (at.ITRANSFORM, itransform)
    ∷ (at.IDTRANSFORM, idtransform) ∷ []

-- they stand together in the list of operators
abbrev pub belongs : ℕ → Bool
belongs n = nat_le at.MATRIX n && nat_le n at.IDTRANSFORM

-- what the operator at a place does
abbrev pub run : ℕ → State → Ask
run n s = run_in operators n s

-- each keeps the states that fit
abbrev pub OperatorsLaw : Type 0
OperatorsLaw = (n : ℕ) → IsLawful (run n)
