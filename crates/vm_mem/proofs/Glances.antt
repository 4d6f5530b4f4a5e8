-- A value that a glance tells is the value that stands there.
use Rattle.std.proofs.Common.{◌≡◌, Bool, true, false, Some, option_map, refl, ap}
use Rattle.ps_objects.specs.declared.access.Access.{Access}
use Rattle.ps_objects.specs.declared.access.Access.TheVariants.{Unlimited, ReadOnly, ExecuteOnly, NoAccess}
use Rattle.ps_objects.specs.declared.object.Object.{Object}
use Rattle.ps_objects.specs.declared.object.Kind.{Kind}
use Rattle.ps_objects.specs.declared.object.Kind.TheVariants as kind
use Rattle.ps_objects.specs.declared.place.Value.{Value}
use Rattle.ps_objects.specs.declared.place.Value.TheVariants as value
use Rattle.vm_mem.specs.declared.glance.Glance.{Glance}
use Rattle.vm_mem.specs.declared.glance.Glance.TheVariants.{Absent, Integer, Real, Boolean, Operator, Procedure, Other}
use Rattle.vm_mem.specs.Glances.{glance_of_executable, glance_of_literal, glance_by, glance_of, glance_at, is_absent, object_told, value_told, GlanceLaw}

abbrev thing : Bool → Kind → Access → Value
thing e k a = value.Object (record { kind = k; exec = e; access = a })

told_executable : (k : Kind) (a : Access) (w : Value) → value_told (glance_of_executable k a) ≡ Some w → thing true k a ≡ w
told_executable (kind.Operator op) Unlimited w h = cc
told_executable (kind.Operator op) ReadOnly w h = cc
told_executable (kind.Operator op) ExecuteOnly w h = cc
told_executable (kind.Operator op) NoAccess w h = cc
told_executable (kind.Array part packed) a w h = cc
told_executable (kind.Integer n) a w h = cc
told_executable (kind.Real r) a w h = cc
told_executable (kind.Boolean b) a w h = cc
told_executable kind.Null a w h = cc
told_executable kind.Mark a w h = cc
told_executable (kind.Name n) a w h = cc
told_executable (kind.Str part) a w h = cc
told_executable (kind.Dict c) a w h = cc
told_executable (kind.File n) a w h = cc
told_executable (kind.Filter n m) a w h = cc
told_executable (kind.Save s) a w h = cc
told_executable (kind.FontId c) a w h = cc

told_literal : (k : Kind) (a : Access) (w : Value) → value_told (glance_of_literal k a) ≡ Some w → thing false k a ≡ w
told_literal (kind.Integer n) Unlimited w h = cc
told_literal (kind.Integer n) ReadOnly w h = cc
told_literal (kind.Integer n) ExecuteOnly w h = cc
told_literal (kind.Integer n) NoAccess w h = cc
told_literal (kind.Real r) Unlimited w h = cc
told_literal (kind.Real r) ReadOnly w h = cc
told_literal (kind.Real r) ExecuteOnly w h = cc
told_literal (kind.Real r) NoAccess w h = cc
told_literal (kind.Boolean b) Unlimited w h = cc
told_literal (kind.Boolean b) ReadOnly w h = cc
told_literal (kind.Boolean b) ExecuteOnly w h = cc
told_literal (kind.Boolean b) NoAccess w h = cc
told_literal (kind.Operator op) a w h = cc
told_literal (kind.Array part packed) a w h = cc
told_literal kind.Null a w h = cc
told_literal kind.Mark a w h = cc
told_literal (kind.Name n) a w h = cc
told_literal (kind.Str part) a w h = cc
told_literal (kind.Dict c) a w h = cc
told_literal (kind.File n) a w h = cc
told_literal (kind.Filter n m) a w h = cc
told_literal (kind.Save s) a w h = cc
told_literal (kind.FontId c) a w h = cc

told_by : (e : Bool) (k : Kind) (a : Access) (w : Value) → value_told (glance_by e k a) ≡ Some w → thing e k a ≡ w
told_by true k a w h = told_executable k a w h
told_by false k a w h = told_literal k a w h

-- something stands where an object stands
there_executable : (k : Kind) (a : Access) → is_absent (glance_of_executable k a) ≡ false
there_executable (kind.Operator op) Unlimited = refl
there_executable (kind.Operator op) ReadOnly = refl
there_executable (kind.Operator op) ExecuteOnly = refl
there_executable (kind.Operator op) NoAccess = refl
there_executable (kind.Array part packed) a = refl
there_executable (kind.Integer n) a = refl
there_executable (kind.Real r) a = refl
there_executable (kind.Boolean b) a = refl
there_executable kind.Null a = refl
there_executable kind.Mark a = refl
there_executable (kind.Name n) a = refl
there_executable (kind.Str part) a = refl
there_executable (kind.Dict c) a = refl
there_executable (kind.File n) a = refl
there_executable (kind.Filter n m) a = refl
there_executable (kind.Save s) a = refl
there_executable (kind.FontId c) a = refl

there_literal : (k : Kind) (a : Access) → is_absent (glance_of_literal k a) ≡ false
there_literal (kind.Integer n) Unlimited = refl
there_literal (kind.Integer n) ReadOnly = refl
there_literal (kind.Integer n) ExecuteOnly = refl
there_literal (kind.Integer n) NoAccess = refl
there_literal (kind.Real r) Unlimited = refl
there_literal (kind.Real r) ReadOnly = refl
there_literal (kind.Real r) ExecuteOnly = refl
there_literal (kind.Real r) NoAccess = refl
there_literal (kind.Boolean b) Unlimited = refl
there_literal (kind.Boolean b) ReadOnly = refl
there_literal (kind.Boolean b) ExecuteOnly = refl
there_literal (kind.Boolean b) NoAccess = refl
there_literal (kind.Operator op) a = refl
there_literal (kind.Array part packed) a = refl
there_literal kind.Null a = refl
there_literal kind.Mark a = refl
there_literal (kind.Name n) a = refl
there_literal (kind.Str part) a = refl
there_literal (kind.Dict c) a = refl
there_literal (kind.File n) a = refl
there_literal (kind.Filter n m) a = refl
there_literal (kind.Save s) a = refl
there_literal (kind.FontId c) a = refl

there_by : (e : Bool) (k : Kind) (a : Access) → is_absent (glance_by e k a) ≡ false
there_by true k a = there_executable k a
there_by false k a = there_literal k a

pub object_there : (x : Object) → is_absent (glance_of x) ≡ false
object_there x = there_by x.exec x.kind x.access

told_whole : (g : Glance) (x : Object) → object_told g ≡ Some x → value_told g ≡ Some (value.Object x)
told_whole Absent x h = cc
told_whole (Integer n) x h = ap (option_map value.Object) h
told_whole (Real r) x h = ap (option_map value.Object) h
told_whole (Boolean b) x h = ap (option_map value.Object) h
told_whole (Operator op) x h = ap (option_map value.Object) h
told_whole (Procedure a packed access) x h = ap (option_map value.Object) h
told_whole Other x h = cc

-- an object that a glance tells is the object that stands there
pub object_is : (x y : Object) → object_told (glance_of x) ≡ Some y → x ≡ y
object_is x y h = same (told_by x.exec x.kind x.access (value.Object y) (told_whole (glance_of x) y h))
  where
    same : value.Object x ≡ value.Object y → x ≡ y
    same e = cc

pub glance_law : GlanceLaw
glance_law value.Absent w h = cc
glance_law (value.Object x) w h = told_by x.exec x.kind x.access w h
glance_law (value.Byte n) w h = cc
glance_law (value.Access a) w h = cc
glance_law (value.Keys ks) w h = cc
glance_law (value.Rand n) w h = cc
glance_law (value.Paper p) w h = cc
