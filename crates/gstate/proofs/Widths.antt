-- A width that is told isn't negative.
use Rattle.std.proofs.Common.{◌≡◌, ℕ, Bool, true, false, cond, pos, Result, Ok, Err, subst, arith}
use Rattle.std.specs.Prelude.{◌≤ℤ◌, unsigned_abs}
use Rattle.ps_shapes.specs.declared.numbers.Real.{Real}
use Rattle.ps_fixed.specs.Rounding.{fits_i64, real_of}
use Rattle.ps_fixed.specs.declared.rounding.Undefined.{Undefined}
use Rattle.real_operands.specs.Reals.{defined}
use Rattle.gstate.specs.Lines.{width_of}

positive : (n : ℕ) → pos 0 ≤ℤ pos n
positive n = grind arith

pub width_positive : (r w : Real) → width_of r ≡ Ok w → pos 0 ≤ℤ w.count
unfolding real_of
width_positive r w = go (fits_i64 (pos (unsigned_abs r.count)))
  where
    go : (b : Bool) → defined (cond {A = Result Real Undefined} b (Ok (record { count = pos (unsigned_abs r.count) })) (Err (record {}))) ≡ Ok w → pos 0 ≤ℤ w.count
    go true e = let p : pos (unsigned_abs r.count) ≡ w.count = cc in subst (λ z. pos 0 ≤ℤ z) p (positive (unsigned_abs r.count))
    go false e = cc
