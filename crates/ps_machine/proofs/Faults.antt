-- Counts of faults.
use Rattle.std.proofs.Common.{ℕ, ◌+◌, ◌≤◌, arith}
use Rattle.std.specs.Prelude.{min}
use Rattle.out_writers.specs.Faults.{HasRisen, last_count}

-- a count that rose after it was no less than before
pub rose_later : (a b c : ℕ) → a ≤ b → HasRisen b c → HasRisen a c
rose_later a b c h r = omega (arith, h, r)
