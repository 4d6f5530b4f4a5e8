-- Bytes as a name.
use Rattle.std.specs.Prelude.{ℕ, List, length, nat_lt, if◌then◌else◌, Result, Ok, Err}
use Rattle.ps_names.specs.declared.error_name.ErrorName.{ErrorName}
use Rattle.ps_names.specs.declared.error_name.ErrorName.TheVariants.{LimitCheck}
use Rattle.ps_names.specs.declared.op.TheConstants.{NAME_LIMIT}

-- the name with these bytes: limitcheck where they are too many
abbrev pub name_of : List ℕ → Result (List ℕ) ErrorName
name_of bytes = if nat_lt NAME_LIMIT (length bytes) then Err LimitCheck else Ok bytes
