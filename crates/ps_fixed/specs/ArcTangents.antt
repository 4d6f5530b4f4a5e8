-- Arc tangents, in degrees, by the sines of angles: the project's own rule, since the language manual sets no precision.
use Rattle.std.specs.Prelude.{◌≡◌, ℕ, zero, suc, ◌+◌, ◌-◌, ◌*◌, ◌/◌, ◌⊎◌, true, false, Bool, if◌then◌else◌, nat_lt, nat_eq, int_le, ℤ, pos, negsuc, ◌*ℤ◌, Result, Ok, Err}
use Rattle.ps_shapes.specs.declared.numbers.Real.{Real}
use Rattle.ps_fixed.specs.declared.rounding.Undefined.{Undefined}
use Rattle.ps_fixed.specs.Sines.{quarter_turn, half_turn, three_quarter_turn, full_turn, sine_of, cosine_of}

-- whether the tangent of place·256 counts is at most num / den
unfoldable pub is_no_steeper : ℕ → ℕ → ℕ → Bool
is_no_steeper place num den = int_le (sine_of (pos (place * 256)) *ℤ pos den) (cosine_of (pos (place * 256)) *ℤ pos num)

-- a place between low and high, by at most that many halvings
unfoldable pub bisection_by : ℕ → ℕ → ℕ → ℕ → ℕ → ℕ
bisection_by zero low high num den = low
bisection_by (suc steps) low high num den =
    if nat_lt 1 (high - low)
    then (if is_no_steeper ((low + high) / 2) num den then bisection_by steps ((low + high) / 2) high num den else bisection_by steps low ((low + high) / 2) num den)
    else low

-- the place between low and high, halved until they are neighbours
unfoldable pub bisection : ℕ → ℕ → ℕ → ℕ → ℕ
bisection low high num den = bisection_by (high - low) low high num den

-- the place is 0 or no steeper than num / den, and the next one is 90 degrees or steeper
pub record IsBracketed (place num den : ℕ) : Type 0 where
  pub below : (place ≡ 0) ⊎ (is_no_steeper place num den ≡ true)
  pub above : (place + 1 ≡ 90 * 65536) ⊎ (is_no_steeper (place + 1) num den ≡ false)

-- the angle below 90 degrees whose tangent is num / den, in counts
abbrev pub acute_angle : ℕ → ℕ → ℕ
acute_angle num den = bisection 0 (90 * 65536) num den * 256

-- an angle of so many counts
abbrev pub angle_at : ℕ → Result Real Undefined
angle_at n = Ok (record { count = pos n })

-- the angle of the point (den, num); Undefined at the origin
abbrev pub arc_tangent : ℤ → ℤ → Result Real Undefined
arc_tangent (pos zero) (pos zero) = Err (record {})
arc_tangent (pos zero) (pos (suc d)) = angle_at 0
arc_tangent (pos zero) (negsuc d) = angle_at half_turn
arc_tangent (pos (suc n)) (pos zero) = angle_at quarter_turn
arc_tangent (negsuc n) (pos zero) = angle_at three_quarter_turn
arc_tangent (pos (suc n)) (pos (suc d)) = angle_at (acute_angle (suc n) (suc d))
arc_tangent (pos (suc n)) (negsuc d) = angle_at (half_turn - acute_angle (suc n) (suc d))
arc_tangent (negsuc n) (negsuc d) = angle_at (half_turn + acute_angle (suc n) (suc d))
arc_tangent (negsuc n) (pos (suc d)) = if nat_eq (acute_angle (suc n) (suc d)) 0 then angle_at 0 else angle_at (full_turn - acute_angle (suc n) (suc d))
