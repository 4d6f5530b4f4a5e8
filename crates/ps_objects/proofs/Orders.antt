-- The orders of the types are those of the definitions.
use Rattle.std.proofs.Common.{◌≡◌, true, false, refl, ap}
use Rattle.std.specs.Ordering.{nat_cmp, bool_cmp, ordering_then}
use Rattle.ps_objects.specs.declared.cell.Cell.{Cell}
use Rattle.ps_objects.specs.declared.cell.Space.{Space}
use Rattle.ps_objects.specs.declared.cell.Space.TheVariants.{Local, Global}
use Rattle.ps_objects.specs.declared.key.Key.{Key}
use Rattle.ps_objects.specs.declared.key.Key.TheVariants as key
use Rattle.ps_objects.specs.declared.objects.Interval.{Interval}
use Rattle.ps_objects.specs.contracts.cell.CellOrd.TheImpl as cell_impl
use Rattle.ps_objects.specs.contracts.cell.SpaceOrd.TheImpl as space_impl
use Rattle.ps_objects.specs.contracts.key.KeyOrd.TheImpl as key_impl
use Rattle.ps_objects.specs.contracts.objects.IntervalOrd.TheImpl as interval_impl
use Rattle.ps_objects.specs.Cell.{in_global}
use Rattle.ps_objects.specs.Order.{cell_order, interval_order, key_order}

spaces_in_order : (a b : Space) → space_impl.ghosts.cmp a b ≡ bool_cmp (in_global a) (in_global b)
spaces_in_order Local Local = refl
spaces_in_order Local Global = refl
spaces_in_order Global Local = refl
spaces_in_order Global Global = refl

pub cells_in_order : (a b : Cell) → cell_impl.ghosts.cmp a b ≡ cell_order a b
cells_in_order a b = ap (λ r. ordering_then (nat_cmp a.section b.section) (ordering_then (nat_cmp a.count b.count) r)) (spaces_in_order a.space b.space)

intervals_in_order : (a b : Interval) → interval_impl.ghosts.cmp a b ≡ interval_order a b
intervals_in_order a b = ap (λ r. ordering_then r (ordering_then (nat_cmp a.start b.start) (nat_cmp a.len b.len))) (cells_in_order a.cell b.cell)

pub keys_in_order : (a b : Key) → key_impl.ghosts.cmp a b ≡ key_order a b
keys_in_order (key.Boolean true) (key.Boolean true) = refl
keys_in_order (key.Boolean true) (key.Boolean false) = refl
keys_in_order (key.Boolean false) (key.Boolean true) = refl
keys_in_order (key.Boolean false) (key.Boolean false) = refl
keys_in_order (key.Boolean true) _ = refl
keys_in_order (key.Boolean false) _ = refl
keys_in_order (key.Dict a) (key.Dict b) = cells_in_order a b
keys_in_order (key.Array a p) (key.Array b q) = ap (λ r. ordering_then r (bool_cmp p q)) (intervals_in_order a b)
keys_in_order (key.FontId a) (key.FontId b) = cells_in_order a b
keys_in_order (key.Name _) (key.Boolean true) = refl
keys_in_order (key.Name _) (key.Boolean false) = refl
keys_in_order (key.Integer _) (key.Boolean true) = refl
keys_in_order (key.Integer _) (key.Boolean false) = refl
keys_in_order (key.Real _) (key.Boolean true) = refl
keys_in_order (key.Real _) (key.Boolean false) = refl
keys_in_order (key.Operator _) (key.Boolean true) = refl
keys_in_order (key.Operator _) (key.Boolean false) = refl
keys_in_order (key.Dict _) (key.Boolean true) = refl
keys_in_order (key.Dict _) (key.Boolean false) = refl
keys_in_order (key.Array _ _) (key.Boolean true) = refl
keys_in_order (key.Array _ _) (key.Boolean false) = refl
keys_in_order (key.File _ _) (key.Boolean true) = refl
keys_in_order (key.File _ _) (key.Boolean false) = refl
keys_in_order (key.Save _) (key.Boolean true) = refl
keys_in_order (key.Save _) (key.Boolean false) = refl
keys_in_order (key.FontId _) (key.Boolean true) = refl
keys_in_order (key.FontId _) (key.Boolean false) = refl
keys_in_order key.Mark (key.Boolean true) = refl
keys_in_order key.Mark (key.Boolean false) = refl
keys_in_order _ _ = refl
