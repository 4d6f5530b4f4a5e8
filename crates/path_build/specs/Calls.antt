-- Calling a procedure.
use Rattle.std.specs.Prelude.{Bool, false, nat_eq, if◌then◌else◌, List, Result, Ok}
use Rattle.ps_names.specs.declared.error_name.ErrorName.{ErrorName}
use Rattle.ps_objects.specs.declared.object.Kind.{Kind}
use Rattle.ps_objects.specs.declared.object.Kind.TheVariants as kind
use Rattle.ps_objects.specs.declared.object.Object.{Object}
use Rattle.ps_kinds.specs.declared.act.Act.{Act}
use Rattle.ps_kinds.specs.declared.act.Act.TheVariants as act
use Rattle.ps_kinds.specs.declared.frame.Frame.{Frame}
use Rattle.ps_kinds.specs.declared.frame.Frame.TheVariants as frame
use Rattle.ps_operator.specs.Budgets.{frames_room}

-- an empty procedure
abbrev pub is_empty : Kind → Bool
is_empty (kind.Array part packed) = nat_eq part.len 0
is_empty _ = false

-- an empty procedure begins no frame, anything else one
abbrev pub call_room : Object → List Frame → Result (Unit {0}) ErrorName
call_room x fs = if is_empty x.kind then Ok tt else frames_room 1 fs

-- the frame that begins, if one does
abbrev pub call_of : Object → Act
call_of x = if is_empty x.kind then act.Done else act.Body (frame.Proc x 0)
