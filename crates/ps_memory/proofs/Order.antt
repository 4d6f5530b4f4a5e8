-- The orders are total, and only equal values tie.
use Rattle.std.proofs.Common.{◌≡◌, true, false, refl, sym, ap, true≢false}
use Rattle.std.specs.declared.cmp.Ordering.{Ordering}
use Rattle.std.specs.declared.cmp.Ordering.TheVariants.{Less, Equal, Greater}
use Rattle.std.specs.Ordering.{nat_cmp, bool_cmp, is_eq, ordering_then}
use Rattle.std.specs.Cmp.{IsTotalOrder, tied_itself}
use Rattle.std.specs.FinMap.{IsAntisymmetric, nat_cmp-IsAntisymmetric, int_cmp-IsAntisymmetric, slice_cmp-IsAntisymmetric}
use Rattle.ps_objects.specs.declared.cell.Cell.{Cell}
use Rattle.ps_objects.specs.declared.cell.SaveName.{SaveName}
use Rattle.ps_objects.specs.declared.cell.Space.{Space}
use Rattle.ps_objects.specs.declared.cell.Space.TheVariants.{Local, Global}
use Rattle.ps_objects.specs.declared.key.Key.{Key}
use Rattle.ps_objects.specs.declared.objects.Interval.{Interval}
use Rattle.ps_objects.specs.declared.key.Key.TheVariants as key
use Rattle.ps_objects.specs.contracts.cell.CellOrd.TheImpl.Laws as cell_laws
use Rattle.ps_objects.specs.contracts.key.KeyOrd.TheImpl.Laws as key_laws
use Rattle.ps_memory.specs.Order.{cell_cmp, key_cmp}

pub cells_total : IsTotalOrder cell_cmp
cells_total = cell_laws.lawful.total

pub keys_total : IsTotalOrder key_cmp
keys_total = key_laws.lawful.total

both : (a b : Ordering) → ordering_then a b ≡ Equal → (a ≡ Equal) × (b ≡ Equal)
both Less b e = cc
both Equal b e = (refl, e)
both Greater b e = cc

bools_antisymmetric : IsAntisymmetric bool_cmp
bools_antisymmetric true true e = refl
bools_antisymmetric false false e = refl
bools_antisymmetric true false e = cc
bools_antisymmetric false true e = cc

pub cells_antisymmetric : IsAntisymmetric cell_cmp
cells_antisymmetric c d e =
    let p = both _ _ e in
    let q = both _ _ p.1 in
    let a = nat_cmp-IsAntisymmetric c.section d.section p.0 in
    let b = nat_cmp-IsAntisymmetric c.count d.count q.0 in
    let g = spaces c.space d.space (λ x. x) in
    λ i. record { section = a i; count = b i; space = g q.1 i }
  where
    spaces : (x y : Space) → ((c.space ≡ c.space) → (c.space ≡ c.space)) → cell_cmp (record { section = 0; count = 0; space = x }) (record { section = 0; count = 0; space = y }) ≡ Equal → x ≡ y
    spaces Local Local h e = refl
    spaces Global Global h e = refl
    spaces Local Global h e = cc
    spaces Global Local h e = cc

intervals_same : (s r : Interval) → ordering_then (cell_cmp s.cell r.cell) (ordering_then (nat_cmp s.start r.start) (nat_cmp s.len r.len)) ≡ Equal → s ≡ r
intervals_same s r e =
    let p = both _ _ e in
    let q = both _ _ p.1 in
    let a = cells_antisymmetric s.cell r.cell p.0 in
    let b = nat_cmp-IsAntisymmetric s.start r.start q.0 in
    let c = nat_cmp-IsAntisymmetric s.len r.len q.1 in
    λ i. record { cell = a i; start = b i; len = c i }

saves_same : (s r : SaveName) → ordering_then (nat_cmp s.section r.section) (nat_cmp s.count r.count) ≡ Equal → s ≡ r
saves_same s r e =
    let p = both _ _ e in
    let a = nat_cmp-IsAntisymmetric s.section r.section p.0 in
    let b = nat_cmp-IsAntisymmetric s.count r.count p.1 in
    λ i. record { section = a i; count = b i }

pub keys_antisymmetric : IsAntisymmetric key_cmp
keys_antisymmetric (key.Name a) (key.Name b) e = ap key.Name (slice_cmp-IsAntisymmetric nat_cmp-IsAntisymmetric a b e)
keys_antisymmetric (key.Integer a) (key.Integer b) e = ap key.Integer (int_cmp-IsAntisymmetric a b e)
keys_antisymmetric (key.Real a) (key.Real b) e = λ i. key.Real (record { count = int_cmp-IsAntisymmetric a.count b.count e i })
keys_antisymmetric (key.Boolean a) (key.Boolean b) e = ap key.Boolean (bools_antisymmetric a b e)
keys_antisymmetric (key.Operator a) (key.Operator b) e = ap key.Operator (nat_cmp-IsAntisymmetric a b e)
keys_antisymmetric (key.Dict a) (key.Dict b) e = ap key.Dict (cells_antisymmetric a b e)
keys_antisymmetric (key.Array a p) (key.Array b q) e =
    let x = both _ _ e in
    let m = intervals_same a b x.0 in
    let r = bools_antisymmetric p q x.1 in
    λ w. key.Array (m w) (r w)
keys_antisymmetric (key.File a i) (key.File b j) e =
    let x = both _ _ e in
    let m = nat_cmp-IsAntisymmetric a b x.0 in
    let n = nat_cmp-IsAntisymmetric i j x.1 in
    λ w. key.File (m w) (n w)
keys_antisymmetric (key.Save a) (key.Save b) e = ap key.Save (saves_same a b e)
keys_antisymmetric (key.FontId a) (key.FontId b) e = ap key.FontId (cells_antisymmetric a b e)
keys_antisymmetric key.Mark key.Mark e = refl
keys_antisymmetric _ _ e = cc

pub is_equal : (r : Ordering) → is_eq r ≡ true → r ≡ Equal
is_equal Equal e = refl
is_equal Less e = absurd (true≢false (sym e))
is_equal Greater e = absurd (true≢false (sym e))

pub cell_is : (c d : Cell) → is_eq (cell_cmp c d) ≡ true → c ≡ d
cell_is c d e = cells_antisymmetric c d (is_equal (cell_cmp c d) e)

pub cell_itself : (c : Cell) → is_eq (cell_cmp c c) ≡ true
cell_itself c = ap is_eq (tied_itself cells_total c)

pub key_is : (j k : Key) → is_eq (key_cmp j k) ≡ true → j ≡ k
key_is j k e = keys_antisymmetric j k (is_equal (key_cmp j k) e)

pub key_itself : (k : Key) → is_eq (key_cmp k k) ≡ true
key_itself k = ap is_eq (tied_itself keys_total k)
