-- The entries of a dictionary, in order of coming.
use Rattle.std.specs.Prelude.{◌≡◌, ℕ, zero, suc, List, [], ◌∷◌, map, Option, Some, None, slice_get, option_map, unsigned_abs}
use Rattle.std.specs.FinMap.{find}
use Rattle.ps_objects.specs.declared.key.Key.{Key}
use Rattle.ps_objects.specs.declared.key.Key.TheVariants as key
use Rattle.ps_objects.specs.declared.object.Object.{Object}
use Rattle.ps_memory.specs.Order.{key_cmp}
use Rattle.vm_mem.specs.Hashes.{key_hash}
use Rattle.dense_dict.specs.declared.hash_index.HashIndex.{HashIndex}
use Rattle.dense_dict.specs.declared.entries.Seat.{Seat}
use Rattle.dense_dict.specs.Index.{hashes, IsLinked}

-- the hash under which a key's seat is found: of an integer its size, of a name the name's
abbrev pub seat_hash : Key → ℕ
seat_hash (key.Integer n) = unsigned_abs n
seat_hash k = key_hash k

-- no key stands twice
abbrev pub AreUnique : List (Key × Seat) → Type 0
AreUnique [] = Unit {0}
AreUnique (e ∷ es) = (find key_cmp e.0 es ≡ None) × AreUnique es

-- an entry with the key stands at the place, or none does
abbrev pub Finds : Key → List (Key × Seat) → Option ℕ → Type 0
Finds k es None = find key_cmp k es ≡ None
Finds k es (Some i) = option_map (λ e. e.0) (slice_get es i) ≡ Some k

-- the index is that of the entries' hashes, and no key stands twice
pub record IsIndexed (x : HashIndex) (es : List (Key × Seat)) : Type 0 where
  pub linked : IsLinked x
  pub hashed : hashes x ≡ map (λ e. seat_hash e.0) es
  pub unique : AreUnique es

-- the entries with an object in the seat at a place
abbrev pub with_object : ℕ → Option Object → List (Key × Seat) → List (Key × Seat)
with_object i o [] = []
with_object zero o (e ∷ es) = (e.0, record { number = e.1.number; object = o }) ∷ es
with_object (suc i) o (e ∷ es) = e ∷ with_object i o es
