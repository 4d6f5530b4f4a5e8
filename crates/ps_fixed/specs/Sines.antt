-- Sines, of angles in degrees. The series and its rounding are the project's own rule, since the language manual sets no precision.
use Rattle.std.specs.Prelude.{ℕ, ◌+◌, ◌-◌, ◌*◌, ◌/◌, ◌%◌, ◌^◌, if◌then◌else◌, nat_eq, unsigned_abs, ℤ, pos, ◌+ℤ◌, ◌-ℤ◌, neg_ℤ}
use Rattle.std.specs.Int.{int_rem_euclid, int_min}
use Rattle.ps_fixed.specs.Rounding.{floor_of}

-- 90 degrees in counts
abbrev pub quarter_turn : ℕ
quarter_turn = 90 * 2 ^ 24

-- 180 degrees
abbrev pub half_turn : ℕ
half_turn = 180 * 2 ^ 24

-- 270 degrees
abbrev pub three_quarter_turn : ℕ
three_quarter_turn = 270 * 2 ^ 24

-- 360 degrees
abbrev pub full_turn : ℕ
full_turn = 360 * 2 ^ 24

-- the angle modulo 360 degrees
unfoldable pub reduced_angle : ℤ → ℕ
reduced_angle z = unsigned_abs (int_rem_euclid z (pos full_turn))

-- the series' next term: t·x2 / n, x2 in counts of 2^-40
abbrev pub next_term : ℕ → ℕ → ℕ → ℕ
next_term t x2 n = t * x2 / (n * 2 ^ 40)

-- the sum of the series' terms from counts of 2^-40 to counts, and no more than 1
abbrev pub series_sum : ℕ → ℕ → ℕ → ℕ → ℕ → ℕ → ℕ → ℤ
series_sum t1 t3 t5 t7 t9 t11 t13 = int_min (pos (2 ^ 24))
    (floor_of (pos t1 -ℤ pos t3 +ℤ pos t5 -ℤ pos t7 +ℤ pos t9 -ℤ pos t11 +ℤ pos t13 +ℤ pos (2 ^ 15)) (2 ^ 16))

-- the sine of x radians, x2 their square, both in counts of 2^-40
abbrev pub series_at : ℕ → ℕ → ℤ
series_at x x2 =
    let t3 = next_term x x2 (2 * 3) in
    let t5 = next_term t3 x2 (4 * 5) in
    let t7 = next_term t5 x2 (6 * 7) in
    let t9 = next_term t7 x2 (8 * 9) in
    let t11 = next_term t9 x2 (10 * 11) in
    let t13 = next_term t11 x2 (12 * 13) in
    series_sum x t3 t5 t7 t9 t11 t13

-- the sine of s counts from 0 to 90 degrees; 19190098068 is π / 180 in counts of 2^-40
unfoldable pub sine_series : ℕ → ℤ
sine_series s =
    let x = s * 19190098068 / 2 ^ 24 in
    series_at x (x * x / 2 ^ 40)

-- the sine of q quarter turns
abbrev pub axis_sine : ℕ → ℤ
axis_sine q = if nat_eq q 0 then pos 0 else (if nat_eq q 1 then pos (2 ^ 24) else (if nat_eq q 2 then pos 0 else neg_ℤ (pos (2 ^ 24))))

-- the sine inside quarter q, s counts after its beginning
abbrev pub quarter_sine : ℕ → ℕ → ℤ
quarter_sine q s =
    if nat_eq q 0 then sine_series s
    else (if nat_eq q 1 then sine_series (quarter_turn - s)
    else (if nat_eq q 2 then neg_ℤ (sine_series s)
    else neg_ℤ (sine_series (quarter_turn - s))))

-- the sine of r counts from 0 to below 360 degrees
unfoldable pub sine_at : ℕ → ℤ
sine_at r = if nat_eq (r % quarter_turn) 0 then axis_sine (r / quarter_turn) else quarter_sine (r / quarter_turn) (r % quarter_turn)

-- the sine of any angle
abbrev pub sine_of : ℤ → ℤ
sine_of z = sine_at (reduced_angle z)

-- the cosine is the sine a quarter turn on
abbrev pub cosine_of : ℤ → ℤ
cosine_of z = sine_of (z +ℤ pos quarter_turn)
