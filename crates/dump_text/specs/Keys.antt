-- The keys of a dictionary, as they are now and as they were at the start.
use Rattle.std.specs.Prelude.{List, [], ◌∷◌}
use Rattle.std.specs.declared.cmp.Ordering.TheVariants.{Less, Equal, Greater}
use Rattle.ps_objects.specs.Order.{key_order}
use Rattle.ps_objects.specs.declared.cell.Cell.{Cell}
use Rattle.ps_objects.specs.declared.key.Key.{Key}
use Rattle.ps_objects.specs.declared.place.Loc.TheVariants as loc
use Rattle.ps_objects.specs.declared.place.Value.{Value}
use Rattle.ps_objects.specs.declared.place.Value.TheVariants as value
use Rattle.ps_memory.specs.Memory.{Memory, value_at}

-- a key, and then the rest of two lists in order of which it begins the first
abbrev pub put_first : Key → (List Key → List Key) → List Key → List Key
put_first k rest [] = k ∷ rest []
put_first k rest (l ∷ ls) = elim (key_order l k) [
  | Less ↦ l ∷ put_first k rest ls
  | Equal ↦ k ∷ rest ls
  | Greater ↦ k ∷ rest (l ∷ ls)
]

-- two lists of keys in order as one, a key of both once
abbrev pub merged : List Key → List Key → List Key
merged [] ls = ls
merged (k ∷ ks) ls = put_first k (merged ks) ls

-- the keys that a value tells
abbrev pub keys_told : Value → List Key
keys_told (value.Keys ks) = ks
keys_told _ = []

-- the keys of a dictionary, in their order; none where it doesn't stand
abbrev pub keys_at : Memory → Cell → List Key
keys_at M c = keys_told (value_at M (loc.Keys c))
