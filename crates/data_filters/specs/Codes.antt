-- The codes of each filter.
use Rattle.std.specs.Prelude.{◌≡◌, ℕ, zero, suc, ◌+◌, ◌-◌, ◌*◌, ◌/◌, ◌%◌, ◌^◌, Bool, true, false, not, ◌&&◌, ◌||◌, ◌==◌, nat_lt, nat_le, List, [], ◌∷◌, length, take, replicate, Option, Some, None, if◌then◌else◌}
use Rattle.std.specs.Char.{digit_value}
use Rattle.filter_tower.specs.declared.tower.FilterKind.{FilterKind}
use Rattle.filter_tower.specs.declared.tower.FilterKind.TheVariants.{Hex, Base85, RunLength, SubFile}
use Rattle.data_filters.specs.declared.code.Code.{Code}
use Rattle.data_filters.specs.declared.code.Code.TheVariants.{Gives, Ends, EndsWithSource, Wrong}
use Rattle.data_filters.specs.Rests.{Rest, byte, ended, broken, size, reach}

-- NUL, TAB, LF, FF, CR and SPACE
abbrev pub is_white : ℕ → Bool
is_white b = b == 0 || b == 9 || b == 10 || b == 12 || b == 13 || b == 32

-- no hexadecimal digit
abbrev pub IsNoDigit : ℕ → Type 0
IsNoDigit b = nat_lt (digit_value b) 16 ≡ false

-- White space in front of a hexadecimal or base-85 code and in it is passed over.
abbrev pub passes : FilterKind → ℕ → Bool
passes Hex b = is_white b
passes Base85 b = is_white b
passes RunLength b = false
passes (SubFile count mark) b = false

-- what comes behind white space
abbrev pub past_white : Rest → Rest
past_white (byte b rest) = if is_white b then past_white rest else byte b rest
past_white ended = ended
past_white broken = broken

-- Two digits give a byte. One digit before the end gives it followed by 0, and leaves the end.
abbrev pub second_digit : ℕ → Rest → Code
second_digit high (byte b rest) =
    if b == 62 then Gives ((high * 16) ∷ []) 1
    else (if nat_lt (digit_value b) 16 then Gives ((high * 16 + digit_value b) ∷ []) 2
    else Wrong)
second_digit high ended = Gives ((high * 16) ∷ []) 1
second_digit high broken = Wrong

-- The end is `>`, or the source's end.
abbrev pub first_digit : Rest → Code
first_digit (byte b rest) =
    if b == 62 then Ends 1
    else (if nat_lt (digit_value b) 16 then second_digit (digit_value b) (past_white rest)
    else Wrong)
first_digit ended = EndsWithSource
first_digit broken = Wrong

-- the characters `!` to `u` are the digits 0 to 84
abbrev pub is_character : ℕ → Bool
is_character b = nat_le 33 b && nat_le b 117

-- a number below 2^32 as four bytes, the highest first
abbrev pub word_of : ℕ → List ℕ
word_of value = value / 16777216 ∷ (value / 65536 % 256) ∷ (value / 256 % 256) ∷ (value % 256) ∷ []

-- a group that lacks characters counts with the highest one in place of each
abbrev pub padded : ℕ → ℕ → ℕ
padded missing value = value * 85 ^ missing + (85 ^ missing - 1)

-- At the end two to four characters give one byte less than their number, and leave the end. One alone is wrong.
abbrev pub cut_group : ℕ → ℕ → Code → Code
cut_group missing value end =
    if missing == 5 then end
    else (if missing == 4 then Wrong
    else (if nat_lt (padded missing value) (2 ^ 32) then Gives (take (4 - missing) (word_of (padded missing value))) (5 - missing)
    else Wrong))

-- `~` is followed by `>` at once
abbrev pub tilde : ℕ → ℕ → Rest → Code
tilde missing value (byte b rest) = if b == 62 then cut_group missing value (Ends 2) else Wrong
tilde missing value ended = Wrong
tilde missing value broken = Wrong

-- What a group gives that lacks so many characters: a character counts, `z` in place of a group gives four bytes 0,
-- and the end is `~>`, or the source's end.
abbrev pub character : ℕ → ℕ → (ℕ → Rest → Code) → Rest → Code
character missing value later (byte b rest) =
    if is_character b then later (value * 85 + (b - 33)) rest
    else (if b == 122 && missing == 5 then Gives (0 ∷ 0 ∷ 0 ∷ 0 ∷ []) 1
    else (if b == 126 then tilde missing value rest
    else Wrong))
character missing value later ended = cut_group missing value EndsWithSource
character missing value later broken = Wrong

-- a group's value: its four bytes, where it is below 2^32
abbrev pub word_code : ℕ → Code
word_code value = if nat_lt value (2 ^ 32) then Gives (word_of value) 5 else Wrong

-- Five characters give four bytes; so many are missing, and the others have this value. A value of 2^32 or more is wrong.
abbrev pub group : ℕ → ℕ → Rest → Code
group zero value rest = word_code value
group (suc missing) value rest = character (suc missing) value (group missing) (past_white rest)

-- a byte in front of those that were found, if they were
abbrev pub in_front : ℕ → Option (List ℕ) → Option (List ℕ)
in_front b None = None
in_front b (Some bytes) = Some (b ∷ bytes)

-- so many bytes, or fewer where the source ends
abbrev pub front : ℕ → Rest → Option (List ℕ)
front zero rest = Some []
front (suc n) (byte b rest) = in_front b (front n rest)
front (suc n) ended = Some []
front (suc n) broken = None

-- the code of bytes that are given as they stand, if they are there: it ends where there are none
abbrev pub literal_of : Option (List ℕ) → Code
literal_of None = Wrong
literal_of (Some []) = Ends 1
literal_of (Some (b ∷ bs)) = Gives (b ∷ bs) (length bs + 2)

-- A byte 0 to 127 gives that many plus one bytes that follow, or ends where none follows.
abbrev pub literal : ℕ → Rest → Code
literal n rest = literal_of (front n rest)

-- A byte 129 to 255 gives the next byte 257 less that many times, once and then as often as said here, or ends where
-- there is none.
abbrev pub repeated : ℕ → Rest → Code
repeated n (byte b rest) = Gives (b ∷ replicate n b) 2
repeated n ended = Ends 1
repeated n broken = Wrong

-- The end is the byte 128, or the source's end.
abbrev pub run : Rest → Code
run (byte n rest) = if n == 128 then Ends 1 else (if nat_lt n 128 then literal (n + 1) rest else repeated (256 - n) rest)
run ended = EndsWithSource
run broken = Wrong

-- a byte of the source gives itself
abbrev pub one : Rest → Code
one (byte b rest) = Gives (b ∷ []) 1
one ended = EndsWithSource
one broken = Wrong

-- these bytes come next
abbrev pub begins_with : List ℕ → Rest → Bool
begins_with [] rest = true
begins_with (m ∷ ms) (byte b rest) = m == b && begins_with ms rest
begins_with (m ∷ ms) ended = false
begins_with (m ∷ ms) broken = false

-- Without a mark the end comes where `count` isn't 0 and so many bytes were given; else the end is the mark.
abbrev pub part : ℕ → List ℕ → ℕ → Rest → Code
part count [] so_far rest = if not (count == 0) && so_far == count then Ends 0 else one rest
part count (m ∷ ms) so_far rest = if begins_with (m ∷ ms) rest then Ends (length (m ∷ ms)) else one rest

-- the next code at the front of a source's rest, where the layer has given so many bytes
abbrev pub code : FilterKind → ℕ → Rest → Code
code Hex so_far rest = first_digit (past_white rest)
code Base85 so_far rest = group 5 0 rest
code RunLength so_far rest = run rest
code (SubFile count mark) so_far rest = part count mark so_far rest

-- how many bytes a code takes, those passed over not counted, or all that the source has
abbrev pub taken_by : Code → Option ℕ
taken_by (Gives bytes taken) = Some taken
taken_by (Ends taken) = Some taken
taken_by EndsWithSource = None
taken_by Wrong = Some 0

-- how many bytes of the source these are
abbrev pub length_taken : FilterKind → Rest → Option ℕ → ℕ
length_taken kind rest (Some n) = reach (passes kind) n rest
length_taken kind rest None = size rest

-- how many are left to be taken behind one of its bytes
abbrev pub left_behind : FilterKind → ℕ → Option ℕ → Option ℕ
left_behind kind b (Some n) = Some (if passes kind b then n else n - 1)
left_behind kind b None = None

-- whether more bytes are to be taken
abbrev pub takes_more : Option ℕ → Bool
takes_more None = true
takes_more (Some zero) = false
takes_more (Some (suc n)) = true
