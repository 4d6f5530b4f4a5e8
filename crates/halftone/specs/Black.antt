-- Which pixels of a gray are black: by a table of thresholds, in which 0 counts as 1 (section 6.4 of the language manual, halftones), or by
-- a start matrix, which is the project's own.
use Rattle.std.specs.Prelude.{ℕ, ℤ, pos, ◌+◌, ◌*◌, ◌/◌, ◌%◌, ◌*ℤ◌, List, max, slice_index, nat_eq, int_lt, int_le, Bool, if◌then◌else◌}

-- twice the exclusive or of the lowest bits of two numbers, and the second one's lowest bit
abbrev pub start_part : ℕ → ℕ → ℕ
start_part x y = 2 * ((x % 2 + y % 2) % 2) + y % 2

-- the level of the start matrix at (x, y), from the lowest three bits of x and y: the lowest weigh most
abbrev pub start_level : ℕ → ℕ → ℕ
start_level x y = 16 * start_part x y + 4 * start_part (x / 2) (y / 2) + start_part (x / 4) (y / 4)

-- the threshold at (x, y) of a table that is laid out row by row over the page, 0 counting as 1
abbrev pub threshold : ℕ → ℕ → ℕ → ℕ → List ℕ → ℕ
threshold x y width height bytes = max (slice_index bytes (y % height * width + x % width)) 1

-- a gray is a number of counts of 2^-24: 64 grays are compared with a level, and 255 with a threshold
abbrev pub is_black : ℕ → ℕ → ℤ → ℕ → ℕ → List ℕ → Bool
is_black x y gray width height bytes =
    if nat_eq width 0
    then int_le (gray *ℤ pos 64) (pos (start_level x y * 16777216))
    else int_lt (gray *ℤ pos 255) (pos (threshold x y width height bytes * 16777216))
