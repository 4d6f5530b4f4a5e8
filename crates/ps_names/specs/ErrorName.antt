-- The names of errors.
use Rattle.std.specs.Prelude.{ℕ, List, [], ◌∷◌, if◌then◌else◌}
use Rattle.ps_names.specs.contracts.error_name.ErrorNamePartialEq.TheImpl as same
use Rattle.ps_names.specs.declared.error_name.ErrorName.{ErrorName}
use Rattle.ps_names.specs.Operators.{errors}

-- the name of an error in a table
abbrev name_in : List (ErrorName × List ℕ) → ErrorName → List ℕ
name_in [] e = []
name_in (x ∷ xs) e = if same.eq-value.it x.0 e then x.1 else name_in xs e

-- the bytes of an error's name
abbrev pub bytes_of : ErrorName → List ℕ
bytes_of = name_in errors
