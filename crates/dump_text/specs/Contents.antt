-- All items of an array, and all bytes of a string.
use Rattle.std.specs.Prelude.{ℕ, zero, suc, ◌==◌, List, [], ◌++◌, codes, if◌then◌else◌}
use Rattle.ps_objects.specs.declared.cell.Cell.{Cell}
use Rattle.ps_objects.specs.declared.place.Loc.TheVariants as loc
use Rattle.ps_objects.specs.declared.place.Value.{Value}
use Rattle.ps_objects.specs.declared.place.Value.TheVariants as value
use Rattle.ps_memory.specs.Memory.{Memory, value_at}
use Rattle.dump_text.specs.Entries.{value_text}
use Rattle.dump_lines.specs.Hex.{hex_byte}

-- the texts of the first so many numbers
unfoldable pub counted : (ℕ → List ℕ) → ℕ → List ℕ
counted f zero = []
counted f (suc n) = counted f n ++ f n

-- an item, behind a space
unfoldable pub item_text : Memory → Cell → ℕ → List ℕ
item_text M c i = codes " " ++ value_text (value_at M (loc.Item c i))

-- all items of an array of this length
unfoldable pub items_line : Memory → Cell → ℕ → List ℕ
items_line M c len = codes " items" ++ counted (item_text M c) len ++ codes "\n"

-- a byte in hex
abbrev pub byte_text : Value → List ℕ
byte_text (value.Byte b) = hex_byte b
byte_text _ = []

-- a space before the first byte
abbrev pub before_byte : ℕ → List ℕ
before_byte i = if i == 0 then codes " " else []

-- a byte of a string, the first behind a space
unfoldable pub string_byte : Memory → Cell → ℕ → List ℕ
string_byte M c i = before_byte i ++ byte_text (value_at M (loc.Byte c i))

-- all bytes of a string of this length
unfoldable pub bytes_line : Memory → Cell → ℕ → List ℕ
bytes_line M c len = codes " bytes" ++ counted (string_byte M c) len ++ codes "\n"
