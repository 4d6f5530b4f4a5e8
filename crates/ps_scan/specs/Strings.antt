-- What the bytes behind a parenthesis or an angle bracket spell.
use Rattle.std.specs.Prelude.{ℕ, zero, suc, ◌+◌, ◌-◌, ◌*◌, ◌%◌, min, Bool, false, ◌&&◌, ◌||◌, ◌==◌, nat_lt, nat_le, List, [], ◌∷◌, take, filter, Option, Some, None, if◌then◌else◌}
use Rattle.std.specs.Char.{digit_value}
use Rattle.std.specs.List.{prefix_len}
use Rattle.std.specs.Str.Parse.{digits_value}
use Rattle.ps_scan.specs.Characters.{is_white}

-- the bytes of a string, at most
unfoldable pub string_limit : ℕ
string_limit = 65535

-- an octal digit
abbrev pub is_octal : ℕ → Bool
is_octal b = nat_le 48 b && nat_le b 55

-- how many octal digits stand at the front, at most three
abbrev pub octal_length : List ℕ → ℕ
octal_length bs = min 3 (prefix_len is_octal bs)

-- a line feed in front
abbrev pub begins_with_feed : List ℕ → Bool
begins_with_feed [] = false
begins_with_feed (b ∷ bs) = b == 10

-- how many bytes behind a backslash belong to it: up to three octal digits, CR LF, or one byte
unfoldable pub escape_length : List ℕ → ℕ
escape_length [] = 0
escape_length (b ∷ bs) =
    if is_octal b then octal_length (b ∷ bs)
    else (if b == 13 && begins_with_feed bs then 2 else 1)

-- the byte that \n, \r, \t, \b and \f give, none at a line end, and else the byte itself
abbrev pub escaped : ℕ → Option ℕ
escaped b =
    if b == 110 then Some 10
    else (if b == 114 then Some 13
    else (if b == 116 then Some 9
    else (if b == 98 then Some 8
    else (if b == 102 then Some 12
    else (if b == 10 || b == 13 then None
    else Some b)))))

-- the byte that a backslash and what stands behind it give, octal digits modulo 256
unfoldable pub escape_byte : List ℕ → Option ℕ
escape_byte [] = None
escape_byte (b ∷ bs) = if is_octal b then Some (digits_value 8 (take (octal_length (b ∷ bs)) (b ∷ bs)) % 256) else escaped b

-- A string is made of pieces: a backslash and what belongs to it, CR LF, or one byte.
unfoldable pub piece_length : List ℕ → ℕ
piece_length [] = 0
piece_length (b ∷ bs) =
    if b == 92 then 1 + escape_length bs
    else (if b == 13 && begins_with_feed bs then 2 else 1)

-- the byte that a piece gives, if any; a line end gives LF
unfoldable pub piece_byte : List ℕ → Option ℕ
piece_byte [] = None
piece_byte (b ∷ bs) = if b == 92 then escape_byte bs else (if b == 13 then Some 10 else Some b)

-- how many parentheses are open behind a byte
abbrev pub depth_after : ℕ → ℕ → ℕ
depth_after b depth = if b == 40 then depth + 1 else (if b == 41 then depth - 1 else depth)

-- the bytes of a string and how many bytes it takes with its closing parenthesis, with a piece's byte in front
abbrev pub onto : Option ℕ → Option (List ℕ × ℕ) → Option (List ℕ × ℕ)
onto byte None = None
onto None (Some body) = Some (body.0, body.1 + 1)
onto (Some b) (Some body) = Some (b ∷ body.0, body.1 + 1)

-- what stands behind an opening parenthesis: the string's bytes and how many bytes it takes up to its closing
-- parenthesis; none where the text ends before. So many parentheses are open in it, and so many bytes in front
-- belong to a piece that was read.
unfoldable pub string_body : ℕ → ℕ → List ℕ → Option (List ℕ × ℕ)
string_body depth passed [] = None
string_body depth (suc passed) (b ∷ bs) = onto None (string_body depth passed bs)
string_body depth zero (b ∷ bs) =
    if depth == 0 && b == 41 then Some ([], 1)
    else onto (piece_byte (b ∷ bs)) (string_body (depth_after b depth) (piece_length (b ∷ bs) - 1) bs)

-- a hexadecimal digit
abbrev pub is_hex_digit : ℕ → Bool
is_hex_digit b = nat_lt (digit_value b) 16

-- hexadecimal digits and white space
abbrev pub is_hex : ℕ → Bool
is_hex b = is_hex_digit b || is_white b

-- two digits make a byte; an odd last digit is followed by 0
abbrev pub pairs : List ℕ → List ℕ
pairs [] = []
pairs (a ∷ []) = (digit_value a * 16) ∷ []
pairs (a ∷ b ∷ ds) = (digit_value a * 16 + digit_value b) ∷ pairs ds

-- two digits make a byte; white space between them counts for nothing
unfoldable pub hex_bytes : List ℕ → List ℕ
hex_bytes bs = pairs (filter is_hex_digit bs)
