-- Laws above the definitions, in the words of the subject.
use Rattle.std.specs.Prelude.{◌≡◌, ℕ, ◌+◌, ◌*◌, ◌^◌, ◌<◌, ◌≤◌, ◌⊎◌, ℤ, pos, ◌+ℤ◌, ◌-ℤ◌, ◌*ℤ◌, neg_ℤ, ◌≤ℤ◌, ◌<ℤ◌, unsigned_abs, Ok}
use Rattle.ps_shapes.specs.declared.numbers.Real.{Real}
use Rattle.ps_fixed.specs.Rounding.{nearest_quotient}
use Rattle.ps_fixed.specs.Arithmetic.{product_of, quotient_of}
use Rattle.ps_fixed.specs.Sines.{sine_of, quarter_turn, half_turn, three_quarter_turn}
use Rattle.ps_fixed.specs.ArcTangents.{arc_tangent}

-- r ≤ p / q + 1/2 < r + 1
pub record IsNearest (r p : ℤ) (q : ℕ) : Type 0 where
  pub low : (r *ℤ pos (q + q)) ≤ℤ (p +ℤ p +ℤ pos q)
  pub high : (p +ℤ p +ℤ pos q) <ℤ (r *ℤ pos (q + q) +ℤ pos (q + q))

-- `nearest_quotient` is that number, and no other is
abbrev pub NearestLaw : Type 0
NearestLaw = (p : ℤ) (q : ℕ) → 0 < q → IsNearest (nearest_quotient p q) p q × ((r : ℤ) → IsNearest r p q → r ≡ nearest_quotient p q)

-- r is within 1/2 of p / q, whatever the sign of q: 2·|r·q - p| ≤ |q|
abbrev pub IsWithinHalf : ℤ → ℤ → ℤ → Type 0
IsWithinHalf r p q = 2 * unsigned_abs (r *ℤ q -ℤ p) ≤ unsigned_abs q

-- a product is within half a count of a·b / 2^24
abbrev pub ProductLaw : Type 0
ProductLaw = (a b r : Real) → product_of a b ≡ Ok r → IsWithinHalf r.count (a.count *ℤ b.count) (pos (2 ^ 24))

-- a quotient is within half a count of a·2^24 / b
abbrev pub QuotientLaw : Type 0
QuotientLaw = (a b r : Real) → quotient_of a b ≡ Ok r → IsWithinHalf r.count (a.count *ℤ pos (2 ^ 24)) b.count

-- half a turn on, the sine has the other sign
abbrev pub HalfTurnLaw : Type 0
HalfTurnLaw = (z : ℤ) → sine_of (z +ℤ pos half_turn) ≡ neg_ℤ (sine_of z)

-- the sine is odd around 180 degrees
abbrev pub OddLaw : Type 0
OddLaw = (z : ℤ) → sine_of (pos half_turn +ℤ z) ≡ neg_ℤ (sine_of (pos half_turn -ℤ z))

-- the angle lies where the signs of num and den put the point (den, num)
pub record IsInQuadrant (num den angle : ℤ) : Type 0 where
  pub upper : pos 0 ≤ℤ num → angle ≤ℤ pos half_turn
  pub lower : num ≤ℤ pos 0 → (angle ≡ pos 0) ⊎ (pos half_turn ≤ℤ angle)
  pub right : pos 0 ≤ℤ den → (angle ≤ℤ pos quarter_turn) ⊎ (pos three_quarter_turn ≤ℤ angle)
  pub left : den ≤ℤ pos 0 → (pos quarter_turn ≤ℤ angle) × (angle ≤ℤ pos three_quarter_turn)

-- an arc tangent lies in its quadrant
abbrev pub QuadrantLaw : Type 0
QuadrantLaw = (num den : ℤ) (r : Real) → arc_tangent num den ≡ Ok r → IsInQuadrant num den r.count
