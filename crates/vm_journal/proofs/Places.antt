-- Places in their order.
use Rattle.std.proofs.Common.{◌≡◌, Bool, true, false, refl, sym, ap, ◌∙◌, subst, true≢false}
use Rattle.std.specs.declared.cmp.Ordering.{Ordering}
use Rattle.std.specs.declared.cmp.Ordering.TheVariants.{Less, Equal, Greater}
use Rattle.std.specs.Ordering.{is_eq, ordering_then}
use Rattle.std.specs.Cmp.{IsTotalOrder, tied_itself}
use Rattle.std.specs.BTreeMap.{is_at}
use Rattle.std.specs.FinMap.{IsAntisymmetric, nat_cmp-IsAntisymmetric}
use Rattle.ps_objects.specs.declared.place.Loc.{Loc}
use Rattle.ps_objects.specs.declared.place.Loc.TheVariants as loc
use Rattle.ps_objects.specs.contracts.place.LocOrd.TheImpl.Laws as loc_laws
use Rattle.ps_memory.specs.Memory.{spot_of}
use Rattle.ps_memory.specs.Ownership.{same_spot}
use Rattle.ps_memory.proofs.Order.{cells_antisymmetric, keys_antisymmetric, is_equal}
use Rattle.ps_memory.proofs.Places.{spot_is}
use Rattle.vm_journal.specs.Journal.{loc_cmp}

pub locs_total : IsTotalOrder loc_cmp
locs_total = loc_laws.lawful.total

both : (a b : Ordering) → ordering_then a b ≡ Equal → (a ≡ Equal) × (b ≡ Equal)
both Less b e = cc
both Equal b e = (refl, e)
both Greater b e = cc

pub locs_antisymmetric : IsAntisymmetric loc_cmp
locs_antisymmetric (loc.Entry c j) (loc.Entry d k) e = let p = both _ _ e in let a = cells_antisymmetric c d p.0 in let b = keys_antisymmetric j k p.1 in λ i. loc.Entry (a i) (b i)
locs_antisymmetric (loc.Keys c) (loc.Keys d) e = ap loc.Keys (cells_antisymmetric c d e)
locs_antisymmetric (loc.Access c) (loc.Access d) e = ap loc.Access (cells_antisymmetric c d e)
locs_antisymmetric (loc.Item c j) (loc.Item d k) e = let p = both _ _ e in let a = cells_antisymmetric c d p.0 in let b = nat_cmp-IsAntisymmetric j k p.1 in λ i. loc.Item (a i) (b i)
locs_antisymmetric (loc.Byte c j) (loc.Byte d k) e = let p = both _ _ e in let a = cells_antisymmetric c d p.0 in let b = nat_cmp-IsAntisymmetric j k p.1 in λ i. loc.Byte (a i) (b i)
locs_antisymmetric loc.Rand loc.Rand e = refl
locs_antisymmetric loc.Paper loc.Paper e = refl
locs_antisymmetric _ _ e = cc

pub loc_is : (l k : Loc) → is_at (loc_cmp l) k ≡ true → l ≡ k
loc_is l k e = locs_antisymmetric l k (is_equal (loc_cmp l k) e)

pub loc_itself : (l : Loc) → is_at (loc_cmp l) l ≡ true
loc_itself l = ap is_eq (tied_itself locs_total l)

-- a spot is one place's
pub spot_once : (l k : Loc) → spot_of l ≡ spot_of k → l ≡ k
spot_once (loc.Entry c j) (loc.Entry d k) e = cc
spot_once (loc.Keys c) (loc.Keys d) e = cc
spot_once (loc.Access c) (loc.Access d) e = cc
spot_once (loc.Item c j) (loc.Item d k) e = cc
spot_once (loc.Byte c j) (loc.Byte d k) e = cc
spot_once loc.Rand loc.Rand e = refl
spot_once loc.Paper loc.Paper e = refl
spot_once _ _ e = cc

pub spots_apart : (l k : Loc) → is_at (loc_cmp l) k ≡ false → same_spot (spot_of k) (spot_of l) ≡ false
spots_apart l k h = go (same_spot (spot_of k) (spot_of l)) refl
  where
    go : (b : Bool) → same_spot (spot_of k) (spot_of l) ≡ b → b ≡ false
    go false e = refl
    go true e = absurd (true≢false (sym (subst (λ q. is_at (loc_cmp l) q ≡ true) (sym (spot_once k l (spot_is (spot_of k) (spot_of l) e))) (loc_itself l)) ∙ h))
