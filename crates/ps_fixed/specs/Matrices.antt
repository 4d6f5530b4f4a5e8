-- Points under a matrix, products of matrices and the inverse.
use Rattle.std.specs.Prelude.{◌^◌, Bool, if◌then◌else◌, nat_lt, ℤ, pos, ◌+ℤ◌, ◌-ℤ◌, ◌*ℤ◌, neg_ℤ, Result, Ok, Err}
use Rattle.std.specs.Int.Signed.{mag}
use Rattle.ps_shapes.specs.declared.numbers.Real.{Real}
use Rattle.ps_shapes.specs.declared.numbers.Matrix.{Matrix}
use Rattle.ps_fixed.specs.declared.rounding.Undefined.{Undefined}
use Rattle.ps_fixed.specs.Rounding.{nearest_count, real_of}
use Rattle.ps_fixed.specs.Arithmetic.{sum_of, negation_of, product_of, nearest_real, and_then}

-- (a·x + c·y) / 2^24 + t, to the nearest count
abbrev pub coordinate : Real → Real → Real → Real → Real → Result Real Undefined
coordinate a x c y t = real_of (nearest_count (a.count *ℤ x.count +ℤ c.count *ℤ y.count +ℤ t.count *ℤ pos (2 ^ 24)))

-- (a·x + c·y) / 2^24, to the nearest count
abbrev pub dot_product : Real → Real → Real → Real → Result Real Undefined
dot_product a x c y = real_of (nearest_count (a.count *ℤ x.count +ℤ c.count *ℤ y.count))

-- the point (x, y) under m
abbrev pub image_of : Matrix → Real → Real → Result (Real × Real) Undefined
image_of m x y = and_then (coordinate m.a x m.c y m.tx) (λ u. and_then (coordinate m.b x m.d y m.ty) (λ v. Ok (u, v)))

-- the distance (x, y) under m, which its tx and ty do not move
abbrev pub delta_image_of : Matrix → Real → Real → Result (Real × Real) Undefined
delta_image_of m x y = and_then (dot_product m.a x m.c y) (λ u. and_then (dot_product m.b x m.d y) (λ v. Ok (u, v)))

-- m and then p
abbrev pub matrix_product : Matrix → Matrix → Result Matrix Undefined
matrix_product m p =
    and_then (dot_product m.a p.a m.b p.c) (λ a. and_then (dot_product m.a p.b m.b p.d) (λ b.
    and_then (dot_product m.c p.a m.d p.c) (λ c. and_then (dot_product m.c p.b m.d p.d) (λ d.
    and_then (image_of p m.tx m.ty) (λ t. Ok (record { a = a; b = b; c = c; d = d; tx = t.0; ty = t.1 }))))))

-- a·d - b·c, in counts of 2^-48
abbrev pub determinant : Matrix → ℤ
determinant m = m.a.count *ℤ m.d.count -ℤ m.b.count *ℤ m.c.count

-- -2^127 ≤ z < 2^127
abbrev pub fits_i128 : ℤ → Bool
fits_i128 z = nat_lt (mag z) (2 ^ 127)

-- -(x·a + y·c), each step rounded as the calls on reals do
abbrev pub inverse_translation : Real → Real → Real → Real → Result Real Undefined
inverse_translation x a y c = and_then (product_of x a) (λ p. and_then (product_of y c) (λ q. and_then (sum_of p q) negation_of))

-- the inverse of m, whose determinant is det
abbrev pub inverse_over : ℤ → Matrix → Result Matrix Undefined
inverse_over det m =
    and_then (nearest_real (m.d.count *ℤ pos (2 ^ 48)) det) (λ a. and_then (nearest_real (neg_ℤ m.b.count *ℤ pos (2 ^ 48)) det) (λ b.
    and_then (nearest_real (neg_ℤ m.c.count *ℤ pos (2 ^ 48)) det) (λ c. and_then (nearest_real (m.a.count *ℤ pos (2 ^ 48)) det) (λ d.
    and_then (inverse_translation m.tx a m.ty c) (λ tx. and_then (inverse_translation m.tx b m.ty d) (λ ty.
    Ok (record { a = a; b = b; c = c; d = d; tx = tx; ty = ty })))))))

-- the inverse of m; Undefined where the determinant is 0 or leaves an i128
abbrev pub inverse_of : Matrix → Result Matrix Undefined
inverse_of m = if fits_i128 (determinant m) then inverse_over (determinant m) m else Err (record {})
