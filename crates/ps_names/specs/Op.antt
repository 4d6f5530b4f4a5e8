-- The default entries of errors among the operators.
use Rattle.std.specs.Prelude.{ℕ, zero, suc, ◌+◌, List, [], ◌∷◌, if◌then◌else◌}
use Rattle.ps_names.specs.contracts.error_name.ErrorNamePartialEq.TheImpl as same
use Rattle.ps_names.specs.declared.error_name.ErrorName.{ErrorName}
use Rattle.ps_names.specs.declared.places.TheConstants.{FIRST_DEFAULT_ENTRY}
use Rattle.ps_names.specs.Operators.{errors}

-- the place of an error in a table
abbrev place_in : List (ErrorName × List ℕ) → ErrorName → ℕ
place_in [] e = zero
place_in (x ∷ xs) e = if same.eq-value.it x.0 e then zero else suc (place_in xs e)

-- the operator that an error executes where errordict says nothing else
abbrev pub default_entry : ErrorName → ℕ
default_entry e = FIRST_DEFAULT_ENTRY + place_in errors e
