-- The operators of a crate: the tree of each with its place in the list of operators.
use Rattle.std.specs.Prelude.{ℕ, nat_eq, cond, List, [], ◌∷◌, ⊤}
use Rattle.ps_names.specs.declared.error_name.ErrorName.TheVariants.{Undefined}
use Rattle.ps_kinds.specs.declared.state.State.{State}
use Rattle.ps_memory.specs.Tree.{fail}
use Rattle.ps_operator.specs.Tree.{Ask}
use Rattle.ps_operator.specs.Lawful.{IsLawful}

-- pairs of a place and a tree
abbrev pub Operators : Type 0
Operators = List (ℕ × (State → Ask))

-- what the operator at a place does; one that isn't there fails
abbrev pub run_in : Operators → ℕ → State → Ask
run_in [] n s = fail Undefined
run_in (t ∷ ts) n s = cond (nat_eq n t.0) (t.1 s) (run_in ts n s)

-- each keeps the states that fit
abbrev pub AreLawful : Operators → Type 0
AreLawful [] = ⊤
AreLawful (t ∷ ts) = IsLawful t.1 × AreLawful ts
