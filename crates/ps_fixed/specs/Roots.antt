-- Square roots.
use Rattle.std.specs.Prelude.{ℕ, zero, suc, ◌+◌, ◌*◌, ◌^◌, ◌<◌, ◌≤◌, if◌then◌else◌, nat_le, unsigned_abs, ℤ, pos}

-- r is the greatest number whose square is not above n
pub record IsRoot (r n : ℕ) : Type 0 where
  pub low : r * r ≤ n
  pub high : n < (r + 1) * (r + 1)

-- the root of n, a bit at a time: the greatest number from r to r + 2^k - 1 whose square is not above n
unfoldable pub root_from : ℕ → ℕ → ℕ → ℕ
root_from zero n r = r
root_from (suc k) n r = if nat_le ((r + 2 ^ k) * (r + 2 ^ k)) n then root_from k n (r + 2 ^ k) else root_from k n r

-- the greatest r with r·r ≤ z·2^24
unfoldable pub root_of : ℤ → ℤ
root_of z = pos (root_from 44 (unsigned_abs z * 2 ^ 24) 0)
