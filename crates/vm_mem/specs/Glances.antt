-- What a glance tells of a value.
use Rattle.std.specs.Prelude.{◌≡◌, Bool, true, false, Option, Some, None, option_map}
use Rattle.ps_objects.specs.declared.access.Access.{Access}
use Rattle.ps_objects.specs.declared.access.Access.TheVariants.{Unlimited}
use Rattle.ps_objects.specs.declared.object.Object.{Object}
use Rattle.ps_objects.specs.declared.object.Kind.{Kind}
use Rattle.ps_objects.specs.declared.object.Kind.TheVariants as kind
use Rattle.ps_objects.specs.declared.place.Loc.{Loc}
use Rattle.ps_objects.specs.declared.place.Value.{Value}
use Rattle.ps_objects.specs.declared.place.Value.TheVariants as value
use Rattle.ps_memory.specs.Memory.{value_at}
use Rattle.ps_meaning.specs.Answer.{Log}
use Rattle.vm_mem.specs.declared.glance.Glance.{Glance}
use Rattle.vm_mem.specs.declared.glance.Glance.TheVariants.{Absent, Integer, Real, Boolean, Operator, Procedure, Other}

-- an executable object: an operator with unlimited access, or an array
abbrev pub glance_of_executable : Kind → Access → Glance
glance_of_executable (kind.Operator op) Unlimited = Operator op
glance_of_executable (kind.Array part packed) a = Procedure part packed a
glance_of_executable _ _ = Other

-- a literal object with unlimited access: a number or a truth value
abbrev pub glance_of_literal : Kind → Access → Glance
glance_of_literal (kind.Integer n) Unlimited = Integer n
glance_of_literal (kind.Real r) Unlimited = Real r
glance_of_literal (kind.Boolean b) Unlimited = Boolean b
glance_of_literal _ _ = Other

-- an object, by its executable attribute
abbrev pub glance_by : Bool → Kind → Access → Glance
glance_by true k a = glance_of_executable k a
glance_by false k a = glance_of_literal k a

-- what a glance tells of an object
abbrev pub glance_of : Object → Glance
glance_of x = glance_by x.exec x.kind x.access

-- what a glance tells of a value
abbrev pub glance_at : Value → Glance
glance_at value.Absent = Absent
glance_at (value.Object x) = glance_of x
glance_at _ = Other

-- what a glance tells of a place
abbrev pub glance_in : Log → Loc → Glance
glance_in log l = glance_at (value_at log.view l)

-- a glance tells that nothing stands there
abbrev pub is_absent : Glance → Bool
is_absent Absent = true
is_absent _ = false

-- the object that a glance tells whole
abbrev pub object_told : Glance → Option Object
object_told (Integer n) = Some (record { kind = kind.Integer n; exec = false; access = Unlimited })
object_told (Real r) = Some (record { kind = kind.Real r; exec = false; access = Unlimited })
object_told (Boolean b) = Some (record { kind = kind.Boolean b; exec = false; access = Unlimited })
object_told (Operator op) = Some (record { kind = kind.Operator op; exec = true; access = Unlimited })
object_told (Procedure a packed access) = Some (record { kind = kind.Array a packed; exec = true; access = access })
object_told Absent = None
object_told Other = None

-- the value that a glance tells whole; of others it tells nothing
abbrev pub value_told : Glance → Option Value
value_told Absent = Some value.Absent
value_told g = option_map value.Object (object_told g)

-- a value that a glance tells is the value that stands there
abbrev pub GlanceLaw : Type 0
GlanceLaw = (v w : Value) → value_told (glance_at v) ≡ Some w → v ≡ w
