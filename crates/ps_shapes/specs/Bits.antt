-- Bits in bytes, the highest of each byte first.
use Rattle.std.specs.Prelude.{ℕ, ◌≡◌, ◌+◌, ◌-◌, ◌*◌, ◌/◌, ◌%◌, ◌<◌, ◌≤◌, ◌&&◌, List, length, Bool, true, false, nat_eq, nat_le, nat_lt, slice_index, if◌then◌else◌}
use Rattle.std.specs.Int.{bit_at}
use Rattle.ps_shapes.specs.Sheet.{Sheet, drawn, pixel}

-- the bit at place n
abbrev pub bit : List ℕ → ℕ → Bool
bit bytes n = nat_eq (bit_at (slice_index bytes (n / 8)) (7 - n % 8)) 1

-- the bits from `first` up to `past` are now `ink`, and the others are as they were
pub record IsFilled (old new : List ℕ) (first past : ℕ) (ink : Bool) : Type 0 where
  pub size : length new ≡ length old
  pub bits : (n : ℕ) → n < 8 * length old → bit new n ≡ (if nat_le first n && nat_lt n past then ink else bit old n)

-- the bits of a byte from `first` up to `past` are `ink`, and the others those of another byte
abbrev pub IsInked : (old new : ℕ) → (first past : ℕ) → (ink : Bool) → Type 0
IsInked old new first past ink = (k : ℕ) → k < 8 → nat_eq (bit_at new (7 - k)) 1 ≡ (if nat_le first k && nat_lt k past then ink else nat_eq (bit_at old (7 - k)) 1)

-- how many bytes a row takes
abbrev pub stride_of : ℕ → ℕ
stride_of width = (width + 7) / 8

-- the pixel in column x of row y
abbrev pub dot_of : ℕ → List ℕ → ℕ → ℕ → Bool
dot_of stride bytes x y = bit bytes (y * (8 * stride) + x)

-- the bytes are the rows of the sheet, each padded to whole bytes by zero bits
pub record IsPacked (sheet : Sheet) (bytes : List ℕ) : Type 0 where
  pub size : length bytes ≡ sheet.height * stride_of sheet.width
  pub dots : (x y : ℕ) → x < sheet.width → y < sheet.height → dot_of (stride_of sheet.width) bytes x y ≡ pixel sheet x y
  pub padding : (x y : ℕ) → sheet.width ≤ x → x < 8 * stride_of sheet.width → y < sheet.height → dot_of (stride_of sheet.width) bytes x y ≡ false

-- what a paper keeps of its bytes
pub record IsRows (width height stride : ℕ) (bytes : List ℕ) : Type 0 where
  pub whole : stride ≡ stride_of width
  pub small : stride ≤ 536870912
  pub size : length bytes ≡ height * stride
  pub padding : (x y : ℕ) → width ≤ x → x < 8 * stride → y < height → dot_of stride bytes x y ≡ false

-- numbers of eight bits
pub record IsBytes (bytes : List ℕ) : Type 0 where
  pub small : (k : ℕ) → slice_index bytes k < 256
