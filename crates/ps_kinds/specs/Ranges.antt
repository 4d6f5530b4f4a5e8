-- The ranges of the numbers of the graphics state.
use Rattle.std.specs.Prelude.{pos, ◌≤ℤ◌, ◌≤◌, List, [], ◌∷◌, length, All, Any}
use Rattle.ps_shapes.specs.declared.numbers.Real.{Real}
use Rattle.ps_shapes.specs.declared.numbers.TheConstants.{ONE}

-- from 0 to 1
abbrev pub IsShare : Real → Type 0
IsShare real = (pos 0 ≤ℤ real.count) × (real.count ≤ℤ ONE)

-- at most 32 lengths, none negative, and not all of them 0
abbrev pub IsDash : List Real → Type 0
IsDash [] = Unit {0}
IsDash (x ∷ xs) = (length (x ∷ xs) ≤ 32) × (All (λ real. pos 0 ≤ℤ real.count) (x ∷ xs)) × (Any (λ real. pos 1 ≤ℤ real.count) (x ∷ xs))
