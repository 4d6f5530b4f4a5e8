-- An item of an array that stands in a sound memory stands.
use Rattle.std.proofs.Common.{◌≡◌, ℕ, ◌+◌, true, subst, sym, ap, ◌∙◌}
use Rattle.ps_objects.specs.declared.object.Object.{Object}
use Rattle.ps_objects.specs.declared.objects.Interval.{Interval}
use Rattle.ps_objects.specs.declared.place.Value.TheVariants as value
use Rattle.ps_kinds.specs.declared.state.State.{State}
use Rattle.ps_memory.specs.Memory.{Memory, Found, is, shaped, item, held, at, value_found, value_at, shape_at}
use Rattle.ps_meaning.specs.Fits.{Shapes, FitsObject, FitsFound}
use Rattle.ps_meaning.specs.Ready.{Ready}
use Rattle.ps_operator.specs.Looks.{item_place}
use Rattle.ps_operator.specs.Standing.{is_named}
use Rattle.ps_operator.proofs.Standing.{named}

object_is : (x y : Object) → value.Object x ≡ value.Object y → x ≡ y
object_is x y e = cc

item_fits : (K : Shapes) (i : ℕ) (f : Found) (x : Object) → value_found f ≡ value.Object x → FitsFound K (item i) f → FitsObject K x
item_fits K i (is (value.Object y)) x e h = subst (FitsObject K) (object_is y x e) h
item_fits K i (is value.Absent) x e h = cc
item_fits K i (is (value.Access a)) x e h = cc
item_fits K i (is (value.Byte n)) x e h = cc
item_fits K i (is (value.Keys ks)) x e h = cc
item_fits K i (is (value.Rand n)) x e h = cc
item_fits K i (is (value.Paper p)) x e h = cc
item_fits K i (shaped sh) x e h = cc

pub item_named : (s : State) (M : Memory) → Ready s M → (a : Interval) (i : ℕ) (x : Object) → value_at M (item_place a i) ≡ value.Object x → is_named M x.kind ≡ true
item_named s M r a i x e =
    named s M r x.kind (item_fits (shape_at M) (a.start + i) (at M (held a.cell (item (a.start + i)))) x e (r.memory.slots a.cell (item (a.start + i))))

-- the same in an equal memory
pub ready_in : (s : State) (M N : Memory) → N ≡ M → Ready s M → Ready s N
ready_in s M N e r = subst (Ready s) (sym e) r

pub named_in : (s : State) (M N : Memory) → N ≡ M → Ready s M → (a : Interval) (i : ℕ) (x : Object) → value_at M (item_place a i) ≡ value.Object x → is_named N x.kind ≡ true
named_in s M N e r a i x v = ap (λ M. is_named M x.kind) e ∙ item_named s M r a i x v
