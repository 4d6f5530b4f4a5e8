-- The bytes of a picture.
use Rattle.std.specs.Prelude.{ℕ, ◌+◌, ◌*◌, ◌/◌, ◌%◌, List, [], map, Bool, false, slice_index_or, if◌then◌else◌}
use Rattle.std.specs.List.{range_with_len}
use Rattle.ps_shapes.specs.Bits.{stride_of}
use Rattle.ps_shapes.specs.Sheet.{Sheet}

-- 1 where the pixel in column x of the row is black, 0 where it is white or past the row's end
abbrev pub pixel_bit : List Bool → ℕ → ℕ
pixel_bit row x = if slice_index_or row x false then 1 else 0

-- eight pixels from column x on, the first in the highest bit
abbrev pub packed_byte : List Bool → ℕ → ℕ
packed_byte row x =
    128 * pixel_bit row x + 64 * pixel_bit row (x + 1) + 32 * pixel_bit row (x + 2) + 16 * pixel_bit row (x + 3)
    + 8 * pixel_bit row (x + 4) + 4 * pixel_bit row (x + 5) + 2 * pixel_bit row (x + 6) + pixel_bit row (x + 7)

-- `stride_of width` bytes for each row, from the top
unfoldable pub picture_bytes : Sheet → List ℕ
picture_bytes s =
    let stride = stride_of s.width in
    map (λ k. packed_byte (slice_index_or s.rows (k / stride) []) (8 * (k % stride))) (range_with_len 0 (s.height * stride))
