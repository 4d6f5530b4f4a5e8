-- Tests of objects, of their access and of keys, which tell whether they are equal.
use Rattle.std.proofs.Common.{◌≡◌, ◌&&◌, Bool, true, List, refl, ap, subst}
use Rattle.std.specs.Bool.{Decides}
use Rattle.std.specs.Cmp.{unsigned_Decides, signed_Decides, booleans_Decides, first_so, second_so}
use Rattle.std.specs.Cmp.Lexicographic.{pointwise, pointwise_decides}
use Rattle.ps_objects.specs.declared.access.Access.{Access}
use Rattle.ps_objects.specs.declared.access.Access.TheVariants.{Unlimited, ReadOnly, ExecuteOnly, NoAccess}
use Rattle.ps_objects.specs.declared.cell.Cell.{Cell}
use Rattle.ps_objects.specs.declared.cell.SaveName.{SaveName}
use Rattle.ps_objects.specs.declared.cell.Space.{Space}
use Rattle.ps_objects.specs.declared.cell.Space.TheVariants.{Local, Global}
use Rattle.ps_objects.specs.declared.key.Key.{Key}
use Rattle.ps_objects.specs.declared.key.Key.TheVariants as key
use Rattle.ps_objects.specs.declared.object.Kind.{Kind}
use Rattle.ps_objects.specs.declared.object.Kind.TheVariants as kind
use Rattle.ps_objects.specs.declared.object.Object.{Object}
use Rattle.ps_objects.specs.declared.objects.Interval.{Interval}
use Rattle.ps_objects.specs.contracts.access.AccessPartialEq.TheImpl as access_eq
use Rattle.ps_objects.specs.contracts.cell.SpacePartialEq.TheImpl as space_eq
use Rattle.ps_objects.specs.contracts.cell.CellPartialEq.TheImpl as cell_eq
use Rattle.ps_objects.specs.contracts.cell.SaveNamePartialEq.TheImpl as save_eq
use Rattle.ps_objects.specs.contracts.key.KeyPartialEq.TheImpl as key_eq
use Rattle.ps_objects.specs.contracts.object.KindPartialEq.TheImpl as kind_eq
use Rattle.ps_objects.specs.contracts.object.ObjectPartialEq.TheImpl as object_eq
use Rattle.ps_objects.specs.contracts.objects.IntervalPartialEq.TheImpl as interval_eq
use Rattle.ps_objects.specs.contracts.key.KeyEq.TheImpl.Laws as key_laws
use Rattle.ps_objects.specs.contracts.object.ObjectEq.TheImpl.Laws as object_laws

-- a test that only equal values pass, and every value with itself
decided : {A : Type 0} (E : A → A → Bool) → ((x : A) → E x x ≡ true) → ((x y : A) → E x y ≡ true → x ≡ y) → (x y : A) → Decides (E x y) (x ≡ y)
decided E own exact x y = (exact x y, λ e. subst (λ z. E x z ≡ true) e (own x))

access_exact : (x y : Access) → access_eq.ghosts.eq x y ≡ true → x ≡ y
access_exact Unlimited Unlimited e = refl
access_exact ReadOnly ReadOnly e = refl
access_exact ExecuteOnly ExecuteOnly e = refl
access_exact NoAccess NoAccess e = refl
access_exact _ _ e = cc

space_exact : (x y : Space) → space_eq.ghosts.eq x y ≡ true → x ≡ y
space_exact Local Local e = refl
space_exact Global Global e = refl
space_exact _ _ e = cc

both : (a b : Bool) → (a && b) ≡ true → (a ≡ true) × (b ≡ true)
both a b e = (first_so a b e, second_so a b e)

cell_exact : (x y : Cell) → cell_eq.ghosts.eq x y ≡ true → x ≡ y
cell_exact x y e =
    let p = both _ _ e in
    let q = both _ _ p.1 in
    let a = (unsigned_Decides x.section y.section).0 p.0 in
    let b = (unsigned_Decides x.count y.count).0 q.0 in
    let c = space_exact x.space y.space q.1 in
    λ i. record { section = a i; count = b i; space = c i }

interval_exact : (x y : Interval) → interval_eq.ghosts.eq x y ≡ true → x ≡ y
interval_exact x y e =
    let p = both _ _ e in
    let q = both _ _ p.1 in
    let a = cell_exact x.cell y.cell p.0 in
    let b = (unsigned_Decides x.start y.start).0 q.0 in
    let c = (unsigned_Decides x.len y.len).0 q.1 in
    λ i. record { cell = a i; start = b i; len = c i }

save_exact : (x y : SaveName) → save_eq.ghosts.eq x y ≡ true → x ≡ y
save_exact x y e =
    let p = both _ _ e in
    let a = (unsigned_Decides x.section y.section).0 p.0 in
    let b = (unsigned_Decides x.count y.count).0 p.1 in
    λ i. record { section = a i; count = b i }

kind_exact : (x y : Kind) → kind_eq.ghosts.eq x y ≡ true → x ≡ y
kind_exact (kind.Integer a) (kind.Integer b) e = ap kind.Integer ((signed_Decides a b).0 e)
kind_exact (kind.Real a) (kind.Real b) e = λ i. kind.Real (record { count = (signed_Decides a.count b.count).0 e i })
kind_exact (kind.Boolean a) (kind.Boolean b) e = ap kind.Boolean ((booleans_Decides a b).0 e)
kind_exact kind.Null kind.Null e = refl
kind_exact kind.Mark kind.Mark e = refl
kind_exact (kind.Name a) (kind.Name b) e = ap kind.Name ((pointwise_decides unsigned_Decides a b).0 e)
kind_exact (kind.Operator a) (kind.Operator b) e = ap kind.Operator ((unsigned_Decides a b).0 e)
kind_exact (kind.Str a) (kind.Str b) e = ap kind.Str (interval_exact a b e)
kind_exact (kind.Array a p) (kind.Array b q) e =
    let x = both _ _ e in
    let m = interval_exact a b x.0 in
    let r = (booleans_Decides p q).0 x.1 in
    λ w. kind.Array (m w) (r w)
kind_exact (kind.Dict a) (kind.Dict b) e = ap kind.Dict (cell_exact a b e)
kind_exact (kind.File a) (kind.File b) e = ap kind.File ((unsigned_Decides a b).0 e)
kind_exact (kind.Filter a i) (kind.Filter b j) e =
    let x = both _ _ e in
    let m = (unsigned_Decides a b).0 x.0 in
    let n = (unsigned_Decides i j).0 x.1 in
    λ w. kind.Filter (m w) (n w)
kind_exact (kind.Save a) (kind.Save b) e = ap kind.Save (save_exact a b e)
kind_exact (kind.FontId a) (kind.FontId b) e = ap kind.FontId (cell_exact a b e)
kind_exact _ _ e = cc

object_exact : (x y : Object) → object_eq.ghosts.eq x y ≡ true → x ≡ y
object_exact x y e =
    let p = both _ _ e in
    let q = both _ _ p.1 in
    let a = kind_exact x.kind y.kind p.0 in
    let b = (booleans_Decides x.exec y.exec).0 q.0 in
    let c = access_exact x.access y.access q.1 in
    λ i. record { kind = a i; exec = b i; access = c i }

key_exact : (x y : Key) → key_eq.ghosts.eq x y ≡ true → x ≡ y
key_exact (key.Name a) (key.Name b) e = ap key.Name ((pointwise_decides unsigned_Decides a b).0 e)
key_exact (key.Integer a) (key.Integer b) e = ap key.Integer ((signed_Decides a b).0 e)
key_exact (key.Real a) (key.Real b) e = λ i. key.Real (record { count = (signed_Decides a.count b.count).0 e i })
key_exact (key.Boolean a) (key.Boolean b) e = ap key.Boolean ((booleans_Decides a b).0 e)
key_exact (key.Operator a) (key.Operator b) e = ap key.Operator ((unsigned_Decides a b).0 e)
key_exact (key.Dict a) (key.Dict b) e = ap key.Dict (cell_exact a b e)
key_exact (key.Array a p) (key.Array b q) e =
    let x = both _ _ e in
    let m = interval_exact a b x.0 in
    let r = (booleans_Decides p q).0 x.1 in
    λ w. key.Array (m w) (r w)
key_exact (key.File a i) (key.File b j) e =
    let x = both _ _ e in
    let m = (unsigned_Decides a b).0 x.0 in
    let n = (unsigned_Decides i j).0 x.1 in
    λ w. key.File (m w) (n w)
key_exact (key.Save a) (key.Save b) e = ap key.Save (save_exact a b e)
key_exact (key.FontId a) (key.FontId b) e = ap key.FontId (cell_exact a b e)
key_exact key.Mark key.Mark e = refl
key_exact _ _ e = cc

pub object_decides : (x y : Object) → Decides (object_eq.ghosts.eq x y) (x ≡ y)
object_decides = decided object_eq.ghosts.eq object_laws.lawful.laws.refl object_exact

pub keys_decide : (xs ys : List Key) → Decides (pointwise key_eq.ghosts.eq xs ys) (xs ≡ ys)
keys_decide = pointwise_decides (decided key_eq.ghosts.eq key_laws.lawful.laws.refl key_exact)
