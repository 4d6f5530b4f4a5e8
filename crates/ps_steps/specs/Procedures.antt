-- Procedures.
use Rattle.std.specs.Prelude.{Option, Some, None}
use Rattle.ps_objects.specs.declared.object.Kind.{Kind}
use Rattle.ps_objects.specs.declared.object.Kind.TheVariants as kind
use Rattle.ps_objects.specs.declared.objects.Interval.{Interval}

-- the items of an array
abbrev pub interval_of : Kind → Option Interval
interval_of (kind.Array part packed) = Some part
interval_of _ = None
