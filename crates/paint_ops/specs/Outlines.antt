-- The polygons of a path, as operators read them.
use Rattle.std.specs.Prelude.{nat_le, if◌then◌else◌, List, Result, Ok, Err}
use Rattle.ps_names.specs.declared.error_name.ErrorName.{ErrorName}
use Rattle.ps_names.specs.declared.error_name.ErrorName.TheVariants.{LimitCheck}
use Rattle.ps_objects.specs.declared.refusal.Refusal.{Refusal}
use Rattle.ps_objects.specs.declared.refusal.Refusal.TheVariants as refusal
use Rattle.ps_shapes.specs.declared.path.Segment.{Segment}
use Rattle.ps_shapes.specs.declared.polygon.Point.{Point}
use Rattle.path_flat.specs.declared.refusal.FlatRefusal.{FlatRefusal}
use Rattle.path_flat.specs.declared.refusal.FlatRefusal.TheVariants as why
use Rattle.path_flat.specs.Limits.{flat_points}
use Rattle.path_flat.specs.Subpaths.{flat}

-- the limit as a limitcheck
abbrev pub told_flat : {A : Type 0} → Result A FlatRefusal → Result A Refusal
told_flat (Ok x) = Ok x
told_flat (Err why.Limit) = Err (refusal.Error LimitCheck)
told_flat (Err why.NoMemory) = Err refusal.NoMemory

-- the polygons; limitcheck where the flattened path has more than 100,000 points; no operator's proof opens this
unfoldable pub polygons_of : List Segment → Result (List (List Point)) ErrorName
polygons_of path = if nat_le (flat_points path) 100000 then Ok (flat path) else Err LimitCheck
