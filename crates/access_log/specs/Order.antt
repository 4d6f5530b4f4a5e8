-- The order of places, which is that of the Rust type.
use Rattle.std.specs.declared.cmp.Ordering.{Ordering}
use Rattle.ps_objects.specs.declared.place.Loc.{Loc}
use Rattle.ps_objects.specs.contracts.place.LocOrd.TheImpl as loc_order

-- in the order of the kinds, and within one by the cell and the key or place
abbrev pub loc_cmp : Loc → Loc → Ordering
loc_cmp = loc_order.ghosts.cmp
