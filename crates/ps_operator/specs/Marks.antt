-- The newest mark among the operands.
use Rattle.std.specs.Prelude.{ℕ, ◌+◌, Bool, true, false, List, [], ◌∷◌, if◌then◌else◌, Result, Ok, Err}
use Rattle.ps_names.specs.declared.error_name.ErrorName.{ErrorName}
use Rattle.ps_names.specs.declared.error_name.ErrorName.TheVariants.{UnmatchedMark}
use Rattle.ps_objects.specs.declared.object.Kind.{Kind}
use Rattle.ps_objects.specs.declared.object.Kind.TheVariants as kind
use Rattle.ps_objects.specs.declared.object.Object.{Object}

-- a mark
abbrev pub is_mark : Kind → Bool
is_mark kind.Mark = true
is_mark _ = false

-- how many of these lie above the newest mark, and n more
abbrev pub above_mark_from : ℕ → List Object → Result ℕ ErrorName
above_mark_from n [] = Err UnmatchedMark
above_mark_from n (x ∷ xs) = if is_mark x.kind then Ok n else above_mark_from (n + 1) xs

-- how many operands lie above the newest mark: unmatchedmark where there is none
abbrev pub above_mark : List Object → Result ℕ ErrorName
above_mark = above_mark_from 0
