-- Reading into strings (section 8.2 of the language manual).
use Rattle.std.specs.Prelude.{ℕ, suc, ◌+◌, ◌-◌, ◌*◌, Bool, false, ◌&&◌, ◌||◌, nat_eq, nat_le, nat_lt, cond, if◌then◌else◌, List, [], ◌∷◌, ◌++◌, drop, take, length, Option, Some, None, Result, Ok, Err}
use Rattle.ps_names.specs.declared.error_name.ErrorName.{ErrorName}
use Rattle.ps_names.specs.declared.error_name.ErrorName.TheVariants.{RangeCheck}
use Rattle.ps_kinds.specs.declared.state.State.{State}
use Rattle.ps_operator.specs.Tree.{Ask, read}
use Rattle.file_ops.specs.Parts.{target_of, some_room, fills}
use Rattle.file_ops.specs.declared.parts.Whole.{Whole}
use Rattle.file_ops.specs.declared.reading.Hex.{Hex}

-- what is left of a section's text
abbrev pub rest_of : List ℕ → State → List ℕ
rest_of text s = drop s.place text

-- ---- bytes as they are

-- so many bytes are told, from the state's place on
abbrev pub tells : State → Whole → List ℕ → Ask
tells s t bs = fills s t bs (nat_eq (length bs) t.interval.len) (s.place + length bs)

-- f string readstring substring b: as many bytes as the string has, or all that are left
abbrev pub readstring : List ℕ → State → Ask
readstring text s =
    read (target_of s) (λ t.
    read (some_room t.interval.len) (λ _.
    tells s t (take t.interval.len (rest_of text s))))

-- ---- hexadecimal digits

-- what a hexadecimal digit counts
abbrev pub digit_of : ℕ → Option ℕ
digit_of b =
    if nat_le 48 b && nat_le b 57 then Some (b - 48)
    else if nat_le 65 b && nat_le b 70 then Some (b - 65 + 10)
    else if nat_le 97 b && nat_le b 102 then Some (b - 97 + 10)
    else None

-- one more byte of the text: a first digit is kept, a second one makes a byte with it, and what is no digit is passed over
abbrev pub with_digit : Hex → Option ℕ → Option ℕ → Hex
with_digit h None first = record h { place = h.place + 1 }
with_digit h (Some d) None = record h { first = Some d; place = h.place + 1 }
with_digit h (Some d) (Some f) =
    record { bytes = h.bytes ++ (16 * f + d) ∷ []; first = None; place = h.place + 1 }

-- one more byte of the text
abbrev pub with_byte : Hex → ℕ → Hex
with_byte h b = with_digit h (digit_of b) h.first

-- up to a number of bytes, from what is left of the text
abbrev pub hex_from : ℕ → List ℕ → Hex → Hex
hex_from len [] h = h
hex_from len (b ∷ rest) h = cond (nat_lt (length h.bytes) len) (hex_from len rest (with_byte h b)) h

-- nothing is read yet
abbrev pub no_hex : ℕ → Hex
no_hex place = record { bytes = []; first = None; place = place }

-- what was read of hexadecimal digits
abbrev pub tells_hex : State → Whole → Hex → Ask
tells_hex s t h = fills s t h.bytes (nat_eq (length h.bytes) t.interval.len) h.place

-- f string readhexstring substring b: as many bytes as the string has, or all that the digits left make
abbrev pub readhexstring : List ℕ → State → Ask
readhexstring text s =
    read (target_of s) (λ t.
    read (some_room t.interval.len) (λ _.
    tells_hex s t (hex_from t.interval.len (rest_of text s) (no_hex s.place))))

-- ---- lines

-- a line feed or a carriage return
abbrev pub ends_line : ℕ → Bool
ends_line b = nat_eq b 10 || nat_eq b 13

-- how many bytes stand before the first line end, or are left
abbrev pub line_length : List ℕ → ℕ
line_length [] = 0
line_length (b ∷ rest) = cond (ends_line b) 0 (suc (line_length rest))

-- a line feed stands at the front
abbrev pub begins_with_feed : List ℕ → Bool
begins_with_feed [] = false
begins_with_feed (b ∷ rest) = nat_eq b 10

-- How many bytes of a line end stand at the front: a carriage return with a line feed is one line end. At the text's end there is none.
abbrev pub end_length : List ℕ → ℕ
end_length [] = 0
end_length (b ∷ rest) = cond (nat_eq b 13 && begins_with_feed rest) 2 1

-- a string has room for a line
abbrev pub line_room : ℕ → ℕ → Result ℕ ErrorName
line_room len n = if nat_lt len n then Err RangeCheck else Ok n

-- a line of n bytes with its line end, if it has one
abbrev pub tells_line : State → Whole → ℕ → List ℕ → Ask
tells_line s t n rest =
    fills s t (take n rest) (nat_lt 0 (end_length (drop n rest)))
    (s.place + (n + end_length (drop n rest)))

-- f string readline substring b: up to a line end, which is taken, or else to the text's end
abbrev pub readline : List ℕ → State → Ask
readline text s =
    read (target_of s) (λ t.
    read (line_room t.interval.len (line_length (rest_of text s))) (λ n.
    tells_line s t n (rest_of text s)))
