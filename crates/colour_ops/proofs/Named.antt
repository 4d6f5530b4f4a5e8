-- A string that is found in a dictionary of a sound memory stands.
use Rattle.std.proofs.Common.{◌≡◌, true, Option, Some, None, Ok, subst, sym, ap, ◌∙◌}
use Rattle.ps_objects.specs.declared.access.Access.{Access}
use Rattle.ps_objects.specs.declared.access.Access.TheVariants.{Unlimited, ReadOnly, ExecuteOnly, NoAccess}
use Rattle.ps_objects.specs.declared.cell.Cell.{Cell}
use Rattle.ps_objects.specs.declared.key.Key.{Key}
use Rattle.ps_objects.specs.declared.object.Kind.{Kind}
use Rattle.ps_objects.specs.declared.object.Kind.TheVariants as kind
use Rattle.ps_objects.specs.declared.object.Object.{Object}
use Rattle.ps_objects.specs.declared.objects.Interval.{Interval}
use Rattle.ps_objects.specs.declared.place.Loc.TheVariants as loc
use Rattle.ps_objects.specs.declared.place.Value.TheVariants as value
use Rattle.ps_kinds.specs.declared.state.State.{State}
use Rattle.ps_memory.specs.Memory.{Memory, Found, is, shaped, entry, held, at, value_found, value_at, shape_at}
use Rattle.ps_meaning.specs.Fits.{Shapes, FitsObject, FitsFound}
use Rattle.ps_meaning.specs.Ready.{Ready}
use Rattle.ps_operator.specs.Looks.{or_absent}
use Rattle.ps_operator.specs.Standing.{is_string, is_named}
use Rattle.ps_operator.proofs.Standing.{named}
use Rattle.colour_ops.specs.Halftones.{string_of, string_in}

object_is : (x y : Object) → value.Object x ≡ value.Object y → x ≡ y
object_is x y e = cc

entry_fits : (K : Shapes) (k : Key) (f : Found) (x : Object) → value_found f ≡ value.Object x → FitsFound K (entry k) f → FitsObject K x
entry_fits K k (is (value.Object y)) x e h = subst (FitsObject K) (object_is y x e) h.1
entry_fits K k (is value.Absent) x e h = cc
entry_fits K k (is (value.Access a)) x e h = cc
entry_fits K k (is (value.Byte n)) x e h = cc
entry_fits K k (is (value.Keys ks)) x e h = cc
entry_fits K k (is (value.Rand n)) x e h = cc
entry_fits K k (is (value.Paper p)) x e h = cc
entry_fits K k (shaped sh) x e h = cc

entry_named : (s : State) (M : Memory) → Ready s M → (d : Cell) (k : Key) (x : Object) → value_at M (loc.Entry d k) ≡ value.Object x → is_named M x.kind ≡ true
entry_named s M r d k x e =
    named s M r x.kind (entry_fits (shape_at M) k (at M (held d (entry k))) x e (r.memory.slots d (entry k)))

part_is : (right : Access) (part a : Interval) → string_of right (kind.Str part) ≡ Ok a → part ≡ a
part_is Unlimited part a e = cc
part_is ReadOnly part a e = cc
part_is ExecuteOnly part a e = cc
part_is NoAccess part a e = cc

pub string_kind : (right : Access) (k : Kind) (a : Interval) → string_of right k ≡ Ok a → k ≡ kind.Str a
string_kind right (kind.Str part) a e = ap kind.Str (part_is right part a e)
string_kind right _ a e = cc

found_stands : (s : State) (M : Memory) → Ready s M → (d : Cell) (k : Key) (x : Option Object) (a : Interval) → value_at M (loc.Entry d k) ≡ or_absent x → string_in x ≡ Ok a → is_string M a ≡ true
found_stands s M r d k None a v e = cc
found_stands s M r d k (Some x) a v e = subst (λ j. is_named M j ≡ true) (string_kind x.access x.kind a e) (entry_named s M r d k x v)

-- the same in an equal memory
pub string_named : (s : State) (M N : Memory) → N ≡ M → Ready s M → (d : Cell) (k : Key) (x : Option Object) (a : Interval) → value_at M (loc.Entry d k) ≡ or_absent x → string_in x ≡ Ok a → is_string N a ≡ true
string_named s M N e r d k x a v h = ap (λ M. is_string M a) e ∙ found_stands s M r d k x a v h

pub ready_in : (s : State) (M N : Memory) → N ≡ M → Ready s M → Ready s N
ready_in s M N e r = subst (Ready s) (sym e) r
