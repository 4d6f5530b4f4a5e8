-- Numbers near 0.
use Rattle.std.specs.Prelude.{ℤ, pos, negsuc, ◌≤ℤ◌}

-- within 2^30 of 0
abbrev pub IsNear : ℤ → Type 0
IsNear z = (negsuc 1073741823 ≤ℤ z) × (z ≤ℤ pos 1073741824)

-- within 2^46 of 0
abbrev pub IsOnDevice : ℤ → Type 0
IsOnDevice z = (negsuc 70368744177663 ≤ℤ z) × (z ≤ℤ pos 70368744177664)
