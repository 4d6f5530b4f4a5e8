-- The places of a list that have a hash.
use Rattle.std.specs.Prelude.{◌≡◌, ℕ, zero, suc, ◌-◌, ◌<◌, ◌==◌, Bool, false, cond, List, [], length, map, Option, Some, None, slice_get}
use Rattle.std.specs.Int.Bits.{bit_and}
use Rattle.dense_dict.specs.declared.hash_index.HashIndex.{HashIndex}
use Rattle.dense_dict.specs.declared.hash_index.Link.{Link}

-- the bucket of a hash among so many
abbrev pub bucket : ℕ → ℕ → ℕ
bucket buckets hash = bit_and hash (buckets - 1)

-- something is there that passes
abbrev pub passes : {A : Type 0} → (A → Bool) → Option A → Bool
passes p None = false
passes p (Some x) = p x

-- one more than the last of the first n places that pass, or 0
abbrev pub last_where : (ℕ → Bool) → ℕ → ℕ
last_where p zero = zero
last_where p (suc n) = cond (p n) (suc n) (last_where p n)

-- the hashes of the places
abbrev pub hashes : HashIndex → List ℕ
hashes x = map (λ l. l.hash) x.links.items

-- a place has the hash
abbrev pub has_hash : ℕ → HashIndex → ℕ → Bool
has_hash hash x i = passes (λ l. l.hash == hash) (slice_get x.links.items i)

-- a place is in one of so many buckets
abbrev pub among : ℕ → ℕ → List Link → ℕ → Bool
among buckets b links i = passes (λ l. bucket buckets l.hash == b) (slice_get links i)

-- a place is in the bucket of the hash
abbrev pub shares : ℕ → HashIndex → ℕ → Bool
shares hash x = among (length x.heads.items) (bucket (length x.heads.items) hash) x.links.items

-- each place leads to the last one before it in its bucket, and each bucket to its last place
pub record AreLinked (heads : List ℕ) (links : List Link) : Type 0 where
  pub nexts : (i : ℕ) (l : Link) → slice_get links i ≡ Some l → l.next ≡ last_where (among (length heads) (bucket (length heads) l.hash) links) i
  pub ends : (b : ℕ) → b < length heads → slice_get heads b ≡ Some (last_where (among (length heads) b links) (length links))
  pub some : heads ≡ [] → links ≡ []

-- the same of an index
abbrev pub IsLinked : HashIndex → Type 0
IsLinked x = AreLinked x.heads.items x.links.items
