-- The limit of the execution stack.
use Rattle.std.specs.Prelude.{ℕ, ◌+◌, List, length, nat_lt, if◌then◌else◌, Result, Ok, Err}
use Rattle.ps_names.specs.declared.error_name.ErrorName.{ErrorName}
use Rattle.ps_names.specs.declared.error_name.ErrorName.TheVariants.{ExecStackOverflow}
use Rattle.ps_kinds.specs.declared.frame.Frame.{Frame}
use Rattle.ps_kinds.specs.declared.frame.TheConstants.{FRAME_LIMIT}

-- n more frames stay within the limit
abbrev pub frames_room : ℕ → List Frame → Result (Unit {0}) ErrorName
frames_room n frames = if nat_lt FRAME_LIMIT (length frames + n) then Err ExecStackOverflow else Ok tt
