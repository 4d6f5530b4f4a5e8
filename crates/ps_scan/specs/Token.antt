-- The tokens of a text.
use Rattle.std.specs.Prelude.{ℕ, ◌+◌, ◌<◌, ◌≤◌, ℤ, false, ◌==◌, ◌||◌, nat_le, List, [], ◌∷◌, length, take, drop, Option, Some, None, Result, Ok, Err, if◌then◌else◌}
use Rattle.std.specs.List.{prefix_len, before_first}
use Rattle.ps_objects.specs.declared.Real.{Real}
use Rattle.ps_names.specs.declared.error_name.ErrorName.{ErrorName}
use Rattle.ps_names.specs.declared.error_name.ErrorName.TheVariants.{LimitCheck, SyntaxError}
use Rattle.ps_fixed.specs.declared.Undefined.{Undefined}
use Rattle.ps_names.specs.declared.op.TheConstants.{NAME_LIMIT}
use Rattle.ps_scan.specs.Characters.{is_delimiter, blanks, closing}
use Rattle.ps_scan.specs.Numbers.{is_integer, is_decimal, is_radix, integer_value, real_value, radix_value}
use Rattle.ps_scan.specs.Strings.{string_limit, string_body, is_hex, hex_bytes}
use Rattle.ps_scan.specs.declared.rows.NameKind.{NameKind}
use Rattle.ps_scan.specs.declared.rows.NameKind.TheVariants as kind
use Rattle.ps_scan.specs.declared.tokens.Token.{Token}
use Rattle.ps_scan.specs.declared.tokens.Token.TheVariants as token
use Rattle.ps_scan.specs.declared.tokens.Scan.{Scan}
use Rattle.ps_scan.specs.declared.tokens.Scan.TheVariants as scan

-- a token or an error, and the place after it
abbrev pub scan_of : Result Token ErrorName → ℕ → Scan
scan_of (Ok found) next = scan.Token found next
scan_of (Err error) next = scan.Bad error next

-- an integer in range
abbrev pub integer_token : Option ℤ → Result Token ErrorName
integer_token (Some z) = Ok (token.Integer z)
integer_token None = Err LimitCheck

-- a real in range
abbrev pub real_token : Result Real Undefined → Result Token ErrorName
real_token (Ok real) = Ok (token.Real real)
real_token (Err undefined) = Err LimitCheck

-- an integer out of 32 signed bits is read as a real
abbrev pub number_token : Option ℤ → List ℕ → Result Token ErrorName
number_token (Some z) row = Ok (token.Integer z)
number_token None row = real_token (real_value row)

-- a name, by the characters in front of it
abbrev pub named : NameKind → List ℕ → Token
named kind.Plain name = token.Exec name
named kind.Literal name = token.Literal name
named kind.Immediate name = token.Now name

-- a name has at most 127 bytes
abbrev pub name_token : NameKind → List ℕ → Result Token ErrorName
name_token how row = if nat_le (length row) NAME_LIMIT then Ok (named how row) else Err LimitCheck

-- the token of a row of regular characters: a number, else an executable name
unfoldable pub row_token : List ℕ → Result Token ErrorName
row_token row =
    if is_integer row then number_token (integer_value row) row
    else (if is_decimal row then real_token (real_value row)
    else (if is_radix row then integer_token (radix_value row)
    else name_token kind.Plain row))

-- the place behind a row at the front of a text that begins at the place, and behind the white space that ends it
unfoldable pub after_row : ℕ → List ℕ → ℕ
after_row place text = let n = length (before_first is_delimiter text) in place + n + closing (drop n text)

-- the number or the name at the front of a text that begins at the place
unfoldable pub row_at : ℕ → List ℕ → Scan
row_at place text = scan_of (row_token (before_first is_delimiter text)) (after_row place text)

-- a literal or an immediate name, of which the slashes are read
unfoldable pub name_at : NameKind → ℕ → List ℕ → Scan
name_at how place text = scan_of (name_token how (before_first is_delimiter text)) (after_row place text)

-- what a slash begins, at the bytes behind it
unfoldable pub slash_at : ℕ → List ℕ → Scan
slash_at place [] = name_at kind.Literal place []
slash_at place (b ∷ bs) = if b == 47 then name_at kind.Immediate (place + 1) bs else name_at kind.Literal place (b ∷ bs)

-- a string has at most 65,535 bytes
abbrev pub string_token : List ℕ → Result Token ErrorName
string_token bytes = if nat_le (length bytes) string_limit then Ok (token.Str bytes) else Err LimitCheck

-- a string in parentheses, where its end was found
abbrev pub body_token : ℕ → ℕ → Option (List ℕ × ℕ) → Scan
body_token place end None = scan.Bad SyntaxError end
body_token place end (Some body) = scan_of (string_token body.0) (place + body.1)

-- what a parenthesis begins, at the bytes behind it
unfoldable pub string_at : ℕ → List ℕ → Scan
string_at place text = body_token place (place + length text) (string_body 0 0 text)

-- the bytes between angle brackets, and what stands behind them
abbrev pub hex_token : List ℕ → ℕ → List ℕ → Scan
hex_token digits place [] = scan.Bad SyntaxError place
hex_token digits place (b ∷ bs) = if b == 62 then scan_of (string_token (hex_bytes digits)) (place + 1) else scan.Bad SyntaxError (place + 1)

-- the string of hexadecimal digits behind an angle bracket
unfoldable pub hex_at : ℕ → List ℕ → Scan
hex_at place text = let n = prefix_len is_hex text in hex_token (take n text) (place + n) (drop n text)

-- what < begins, at the bytes behind it
unfoldable pub less_at : ℕ → List ℕ → Scan
less_at place [] = hex_at place []
less_at place (b ∷ bs) = if b == 60 then scan.Token (token.Exec (60 ∷ 60 ∷ [])) (place + 1) else hex_at place (b ∷ bs)

-- what > begins, at the bytes behind it
unfoldable pub greater_at : ℕ → List ℕ → Scan
greater_at place [] = scan.Bad SyntaxError place
greater_at place (b ∷ bs) = if b == 62 then scan.Token (token.Exec (62 ∷ 62 ∷ [])) (place + 1) else scan.Bad SyntaxError place

-- a square bracket is a name of its own, and a brace a token
unfoldable pub bracket : ℕ → ℕ → Scan
bracket place b =
    if b == 91 || b == 93 then scan.Token (token.Exec (b ∷ [])) place
    else (if b == 123 then scan.Token token.BodyBegin place
    else (if b == 125 then scan.Token token.BodyEnd place
    else scan.Bad SyntaxError place))

-- what a special character begins, at the bytes behind it
unfoldable pub special_at : ℕ → ℕ → List ℕ → Scan
special_at place b bs =
    if b == 47 then slash_at place bs
    else (if b == 40 then string_at place bs
    else (if b == 60 then less_at place bs
    else (if b == 62 then greater_at place bs
    else bracket place b)))

-- the token at the front of a text that begins at the place
unfoldable pub token_from : ℕ → List ℕ → Scan
token_from place [] = scan.End
token_from place (b ∷ bs) = if is_delimiter b then special_at (place + 1) b bs else row_at place (b ∷ bs)

-- the token that stands in a text behind the white space and comments at a place
unfoldable pub token_at : List ℕ → ℕ → Scan
token_at text place =
    let rest = drop place text in
    token_from (place + blanks false rest) (drop (blanks false rest) rest)

-- the place after a token or an error is further on, and within the text
abbrev pub MovesOn : ℕ → ℕ → Scan → Type 0
MovesOn place end (scan.Token _ next) = (place < next) × (next ≤ end)
MovesOn place end (scan.Bad _ next) = (place < next) × (next ≤ end)
MovesOn place end scan.End = Unit {0}
