-- The pen of a graphics state.
use Rattle.std.specs.Prelude.{ℕ, ◌*◌, ◌/◌, ◌^◌, pos, ◌*ℤ◌, max, min, unsigned_abs}
use Rattle.ps_shapes.specs.declared.numbers.Real.{Real}
use Rattle.ps_shapes.specs.declared.numbers.Matrix.{Matrix}
use Rattle.ps_fixed.specs.Matrices.{determinant}
use Rattle.ps_fixed.specs.Roots.{root_from}
use Rattle.ps_fixed.specs.Rounding.{nearest_quotient}

-- the greatest k whose square is not above the magnitude of the determinant: the scale of the matrix, in counts
unfoldable pub scale : Matrix → ℕ
scale m = root_from 64 (unsigned_abs (determinant m)) 0

-- half the width under the matrix, in 1/256 pixel, and no less than half a pixel
unfoldable pub radius_of : Real → Matrix → ℕ
radius_of width m = max 128 (unsigned_abs (nearest_quotient (width.count *ℤ pos (scale m)) (2 ^ 41)))

-- the radius with which lines are drawn: none beyond 2^31 - 1, with which no polygon has all its corners within 2^30 of 0 either
abbrev pub pen_radius : Real → Matrix → ℕ
pen_radius width m = min (radius_of width m) 2147483647

-- the lesser of the miter limit and 1,000, in 1/256
abbrev pub pen_miter : Real → ℕ
pen_miter limit = min (unsigned_abs limit.count) (1000 * 2 ^ 24) / 2 ^ 16
