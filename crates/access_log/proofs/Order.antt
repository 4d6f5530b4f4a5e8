-- The order of places ties just those at one spot.
use Rattle.std.proofs.Common.{◌≡◌, ℕ, Bool, true, false, ◌&&◌, refl, ap, ◌∙◌, nat_eq, ◌<◌, arith}
use Rattle.std.specs.declared.cmp.Ordering.{Ordering}
use Rattle.std.specs.declared.cmp.Ordering.TheVariants.{Less, Equal, Greater}
use Rattle.std.specs.Ordering.{MatchOrdering, nat_cmp, is_eq, ordering_then}
use Rattle.std.specs.Cmp.{IsTotalOrder, ranks}
use Rattle.ps_objects.specs.declared.place.Loc.{Loc}
use Rattle.ps_objects.specs.declared.place.Loc.TheVariants as loc
use Rattle.ps_objects.specs.contracts.place.LocOrd.TheImpl.Laws as loc_laws
use Rattle.ps_memory.specs.Memory.{spot_of}
use Rattle.ps_memory.specs.Order.{cell_cmp, key_cmp}
use Rattle.ps_memory.specs.Ownership.{same_cell, same_spot}
use Rattle.access_log.specs.Order.{loc_cmp}

pub locs_total : IsTotalOrder loc_cmp
locs_total = loc_laws.lawful.total

split : (a b : Ordering) → is_eq (ordering_then a b) ≡ (is_eq a && is_eq b)
split Less b = refl
split Equal b = refl
split Greater b = refl

and_true : (a : Bool) → a ≡ (a && true)
and_true true = refl
and_true false = refl

and_false : (a : Bool) → false ≡ (a && false)
and_false true = refl
and_false false = refl

same_number : (i j : ℕ) → is_eq (nat_cmp j i) ≡ nat_eq i j
same_number i j = go (nat_cmp j i) (ranks j i)
  where
    go : (r : Ordering) → MatchOrdering r (j < i) (j ≡ i) (i < j) → is_eq r ≡ nat_eq i j
    go Less h = grind (arith, h)
    go Equal h = grind (arith, h)
    go Greater h = grind (arith, h)

-- the order of places ties just those at one spot
pub place_same : (k l : Loc) → is_eq (loc_cmp l k) ≡ same_spot (spot_of k) (spot_of l)
place_same (loc.Entry d i) (loc.Entry e j) = split (cell_cmp e d) (key_cmp j i)
place_same (loc.Entry d i) (loc.Keys e) = and_false (same_cell e d)
place_same (loc.Entry d i) (loc.Access e) = and_false (same_cell e d)
place_same (loc.Entry d i) (loc.Item e j) = and_false (same_cell e d)
place_same (loc.Entry d i) (loc.Byte e j) = refl
place_same (loc.Entry d i) loc.Rand = refl
place_same (loc.Entry d i) loc.Paper = refl
place_same (loc.Keys d) (loc.Entry e j) = and_false (same_cell e d)
place_same (loc.Keys d) (loc.Keys e) = and_true (same_cell e d)
place_same (loc.Keys d) (loc.Access e) = and_false (same_cell e d)
place_same (loc.Keys d) (loc.Item e j) = and_false (same_cell e d)
place_same (loc.Keys d) (loc.Byte e j) = refl
place_same (loc.Keys d) loc.Rand = refl
place_same (loc.Keys d) loc.Paper = refl
place_same (loc.Access d) (loc.Entry e j) = and_false (same_cell e d)
place_same (loc.Access d) (loc.Keys e) = and_false (same_cell e d)
place_same (loc.Access d) (loc.Access e) = and_true (same_cell e d)
place_same (loc.Access d) (loc.Item e j) = and_false (same_cell e d)
place_same (loc.Access d) (loc.Byte e j) = refl
place_same (loc.Access d) loc.Rand = refl
place_same (loc.Access d) loc.Paper = refl
place_same (loc.Item d i) (loc.Entry e j) = and_false (same_cell e d)
place_same (loc.Item d i) (loc.Keys e) = and_false (same_cell e d)
place_same (loc.Item d i) (loc.Access e) = and_false (same_cell e d)
place_same (loc.Item d i) (loc.Item e j) = split (cell_cmp e d) (nat_cmp j i) ∙ ap (λ b. same_cell e d && b) (same_number i j)
place_same (loc.Item d i) (loc.Byte e j) = refl
place_same (loc.Item d i) loc.Rand = refl
place_same (loc.Item d i) loc.Paper = refl
place_same (loc.Byte d i) (loc.Entry e j) = refl
place_same (loc.Byte d i) (loc.Keys e) = refl
place_same (loc.Byte d i) (loc.Access e) = refl
place_same (loc.Byte d i) (loc.Item e j) = refl
place_same (loc.Byte d i) (loc.Byte e j) = split (cell_cmp e d) (nat_cmp j i) ∙ ap (λ b. same_cell e d && b) (same_number i j)
place_same (loc.Byte d i) loc.Rand = refl
place_same (loc.Byte d i) loc.Paper = refl
place_same loc.Rand (loc.Entry e j) = refl
place_same loc.Rand (loc.Keys e) = refl
place_same loc.Rand (loc.Access e) = refl
place_same loc.Rand (loc.Item e j) = refl
place_same loc.Rand (loc.Byte e j) = refl
place_same loc.Rand loc.Rand = refl
place_same loc.Rand loc.Paper = refl
place_same loc.Paper (loc.Entry e j) = refl
place_same loc.Paper (loc.Keys e) = refl
place_same loc.Paper (loc.Access e) = refl
place_same loc.Paper (loc.Item e j) = refl
place_same loc.Paper (loc.Byte e j) = refl
place_same loc.Paper loc.Rand = refl
place_same loc.Paper loc.Paper = refl
