-- The scale of the default matrix is a real that isn't negative.
use Rattle.std.proofs.Common.{◌≡◌, ℕ, ◌+◌, ◌*◌, ◌/◌, ◌^◌, ◌<◌, Bool, true, false, cond, Result, Ok, Err, refl, sym, ap, ap₂, ◌∙◌, subst, arith}
use Rattle.std.specs.Prelude.{pos, ◌≤ℤ◌, FitsSigned}
use Rattle.std.specs.Int.{w64}
use Rattle.std.proofs.lemmas.Int.{ints}
use Rattle.ps_shapes.specs.declared.numbers.Real.{Real}
use Rattle.ps_fixed.specs.declared.rounding.Undefined.{Undefined}
use Rattle.ps_fixed.specs.Rounding.{fits_i64, real_of}
use Rattle.ps_fixed.specs.Arithmetic.{quotient_of}
use Rattle.ps_fixed.proofs.Floors.{scaled_up, real_of_inside}
use Rattle.ps_meaning.specs.Start.{whole_real, scale_of}
use Rattle.ps_start.specs.Scale.{ScaleLaw}

-- 72 in counts
abbrev divisor : ℕ
divisor = 1207959552

abbrev nearest : ℕ → ℕ
nearest dpi = (2 * (dpi * 16777216 * 16777216) + divisor) / (2 * divisor)

quotient_is : (dpi : ℕ) → quotient_of (whole_real dpi) (whole_real 72) ≡ real_of (pos (nearest dpi))
quotient_is dpi = ap real_of (sym (scaled_up (nearest dpi) (pos (dpi * 16777216)) divisor (dpi * 16777216) (omega arith) refl))

abbrev or_zero : Result Real Undefined → Real
or_zero r = elim r [ Ok s ↦ s | Err e ↦ whole_real 0 ]

not_negative : (m : ℕ) → pos 0 ≤ℤ (or_zero (real_of (pos m))).count
unfolding real_of
not_negative m = go (fits_i64 (pos m))
  where
    go : (b : Bool) → pos 0 ≤ℤ (or_zero (cond b (Ok (record { count = pos m })) (Err (record {})))).count
    go true = omega (arith, ints)
    go false = omega (arith, ints)

pub scale_not_negative : (dpi : ℕ) (a b s : Real) → a ≡ whole_real dpi → b ≡ whole_real 72 → Ok s ≡ quotient_of a b → pos 0 ≤ℤ s.count
scale_not_negative dpi a b s e f h =
    let is : quotient_of a b ≡ real_of (pos (nearest dpi)) = ap₂ quotient_of e f ∙ quotient_is dpi in
    subst (λ (r : Result Real Undefined). pos 0 ≤ℤ (or_zero r).count) (sym (h ∙ is)) (not_negative (nearest dpi))

small : (dpi : ℕ) → dpi < 2 ^ 32 → nearest dpi < 2 ^ 63
small dpi h = omega arith

inside : (m : ℕ) → m < 2 ^ 63 → FitsSigned w64 (pos m)
inside m h = grind (arith, ints)

pub scale_law : ScaleLaw
scale_law dpi h =
    let e : quotient_of (whole_real dpi) (whole_real 72) ≡ Ok (record { count = pos (nearest dpi) }) = quotient_is dpi ∙ real_of_inside (pos (nearest dpi)) (inside (nearest dpi) (small dpi h)) in
    e ∙ ap Ok (sym (ap or_zero e))
