-- A string that is scanned has at most 65,535 bytes.
use Rattle.std.proofs.Common.{◌≡◌, ℕ, ◌+◌, ◌≤◌, ℤ, Bool, true, false, cond, ◌||◌, eqb, nat_le, List, [], ◌∷◌, length, take, drop, Option, Some, None, Result, Ok, Err, refl, arith}
use Rattle.std.specs.Bool.{⊤}
use Rattle.std.specs.List.{prefix_len, before_first}
use Rattle.ps_objects.specs.declared.Real.{Real}
use Rattle.ps_names.specs.declared.error_name.ErrorName.TheVariants.{LimitCheck, SyntaxError}
use Rattle.ps_fixed.specs.declared.Undefined.{Undefined}
use Rattle.ps_names.specs.declared.op.TheConstants.{NAME_LIMIT}
use Rattle.ps_scan.specs.Characters.{is_delimiter, blanks}
use Rattle.ps_scan.specs.Numbers.{is_integer, is_decimal, is_radix, integer_value, real_value, radix_value}
use Rattle.ps_scan.specs.Strings.{string_limit, string_body, is_hex, hex_bytes}
use Rattle.ps_scan.specs.Token.{scan_of, integer_token, real_token, number_token, named, name_token, row_token, after_row, row_at, name_at, slash_at, string_token, body_token, string_at, hex_token, hex_at, less_at, greater_at, bracket, special_at, token_from, token_at}
use Rattle.ps_scan.specs.declared.rows.NameKind.{NameKind}
use Rattle.ps_scan.specs.declared.rows.NameKind.TheVariants as how
use Rattle.ps_scan.specs.declared.tokens.Scan.{Scan}
use Rattle.ps_scan.specs.declared.tokens.Scan.TheVariants as scan
use Rattle.ps_scan.specs.declared.tokens.Token.{Token}
use Rattle.ps_scan.specs.declared.tokens.Token.TheVariants as token

abbrev pub IsShort : Token → Type 0
IsShort (token.Str bs) = length bs ≤ 65535
IsShort _ = ⊤

abbrev pub ScansShort : Scan → Type 0
ScansShort (scan.Token t next) = IsShort t
ScansShort _ = ⊤

-- ---- rows

real_short : (r : Result Real Undefined) (n : ℕ) → ScansShort (scan_of (real_token r) n)
real_short (Ok x) n = tt
real_short (Err u) n = tt

integer_short : (o : Option ℤ) (n : ℕ) → ScansShort (scan_of (integer_token o) n)
integer_short (Some z) n = tt
integer_short None n = tt

number_short : (o : Option ℤ) (row : List ℕ) (n : ℕ) → ScansShort (scan_of (number_token o row) n)
number_short (Some z) row n = tt
number_short None row n = real_short (real_value row) n

named_short : (k : NameKind) (row : List ℕ) (n : ℕ) → ScansShort (scan.Token (named k row) n)
named_short how.Plain row n = tt
named_short how.Literal row n = tt
named_short how.Immediate row n = tt

name_short : (k : NameKind) (row : List ℕ) (n : ℕ) → ScansShort (scan_of (name_token k row) n)
name_short k row n = go (nat_le (length row) NAME_LIMIT)
  where
    go : (b : Bool) → ScansShort (scan_of (cond b (Ok (named k row)) (Err LimitCheck)) n)
    go true = named_short k row n
    go false = tt

row_by : (i d r : Bool) (row : List ℕ) (n : ℕ) → ScansShort (scan_of (cond i (number_token (integer_value row) row) (cond d (real_token (real_value row)) (cond r (integer_token (radix_value row)) (name_token how.Plain row)))) n)
row_by true d r row n = number_short (integer_value row) row n
row_by false true r row n = real_short (real_value row) n
row_by false false true row n = integer_short (radix_value row) n
row_by false false false row n = name_short how.Plain row n

row_short : (row : List ℕ) (n : ℕ) → ScansShort (scan_of (row_token row) n)
unfolding row_token
row_short row n = row_by (is_integer row) (is_decimal row) (is_radix row) row n

row_at_short : (place : ℕ) (text : List ℕ) → ScansShort (row_at place text)
unfolding row_at
row_at_short place text = row_short (before_first is_delimiter text) (after_row place text)

name_at_short : (k : NameKind) (place : ℕ) (text : List ℕ) → ScansShort (name_at k place text)
unfolding name_at
name_at_short k place text = name_short k (before_first is_delimiter text) (after_row place text)

-- ---- strings

short : (n : ℕ) → nat_le n 65535 ≡ true → n ≤ 65535
short n h = grind arith

string_by : (b : Bool) (bs : List ℕ) (n : ℕ) → nat_le (length bs) 65535 ≡ b → ScansShort (scan_of (cond b (Ok (token.Str bs)) (Err LimitCheck)) n)
string_by true bs n e = short (length bs) e
string_by false bs n e = tt

string_short : (bs : List ℕ) (n : ℕ) → ScansShort (scan_of (string_token bs) n)
unfolding string_limit
string_short bs n = string_by (nat_le (length bs) 65535) bs n refl

body_short : (place end : ℕ) (o : Option (List ℕ × ℕ)) → ScansShort (body_token place end o)
body_short place end None = tt
body_short place end (Some body) = string_short body.0 (place + body.1)

string_at_short : (place : ℕ) (text : List ℕ) → ScansShort (string_at place text)
unfolding string_at
string_at_short place text = body_short place (place + length text) (string_body 0 0 text)

hex_short : (digits : List ℕ) (place : ℕ) (rest : List ℕ) → ScansShort (hex_token digits place rest)
hex_short digits place [] = tt
hex_short digits place (b ∷ bs) = go (eqb b 62)
  where
    go : (t : Bool) → ScansShort (cond t (scan_of (string_token (hex_bytes digits)) (place + 1)) (scan.Bad SyntaxError (place + 1)))
    go true = string_short (hex_bytes digits) (place + 1)
    go false = tt

hex_at_short : (place : ℕ) (text : List ℕ) → ScansShort (hex_at place text)
unfolding hex_at
hex_at_short place text = let n = prefix_len is_hex text in hex_short (take n text) (place + n) (drop n text)

-- ---- special characters

slash_short : (place : ℕ) (text : List ℕ) → ScansShort (slash_at place text)
unfolding slash_at
slash_short place [] = name_at_short how.Literal place []
slash_short place (b ∷ bs) = go (eqb b 47)
  where
    go : (t : Bool) → ScansShort (cond t (name_at how.Immediate (place + 1) bs) (name_at how.Literal place (b ∷ bs)))
    go true = name_at_short how.Immediate (place + 1) bs
    go false = name_at_short how.Literal place (b ∷ bs)

less_short : (place : ℕ) (text : List ℕ) → ScansShort (less_at place text)
unfolding less_at
less_short place [] = hex_at_short place []
less_short place (b ∷ bs) = go (eqb b 60)
  where
    go : (t : Bool) → ScansShort (cond t (scan.Token (token.Exec (60 ∷ 60 ∷ [])) (place + 1)) (hex_at place (b ∷ bs)))
    go true = tt
    go false = hex_at_short place (b ∷ bs)

greater_short : (place : ℕ) (text : List ℕ) → ScansShort (greater_at place text)
unfolding greater_at
greater_short place [] = tt
greater_short place (b ∷ bs) = go (eqb b 62)
  where
    go : (t : Bool) → ScansShort (cond t (scan.Token (token.Exec (62 ∷ 62 ∷ [])) (place + 1)) (scan.Bad SyntaxError place))
    go true = tt
    go false = tt

bracket_short : (place b : ℕ) → ScansShort (bracket place b)
unfolding bracket
bracket_short place b = go (eqb b 91 || eqb b 93) (eqb b 123) (eqb b 125)
  where
    go : (s o c : Bool) → ScansShort (cond s (scan.Token (token.Exec (b ∷ [])) place) (cond o (scan.Token token.BodyBegin place) (cond c (scan.Token token.BodyEnd place) (scan.Bad SyntaxError place))))
    go true o c = tt
    go false true c = tt
    go false false true = tt
    go false false false = tt

special_short : (place b : ℕ) (bs : List ℕ) → ScansShort (special_at place b bs)
unfolding special_at
special_short place b bs = go (eqb b 47) (eqb b 40) (eqb b 60) (eqb b 62)
  where
    go : (s p l g : Bool) → ScansShort (cond s (slash_at place bs) (cond p (string_at place bs) (cond l (less_at place bs) (cond g (greater_at place bs) (bracket place b)))))
    go true p l g = slash_short place bs
    go false true l g = string_at_short place bs
    go false false true g = less_short place bs
    go false false false true = greater_short place bs
    go false false false false = bracket_short place b

from_short : (place : ℕ) (text : List ℕ) → ScansShort (token_from place text)
unfolding token_from
from_short place [] = tt
from_short place (b ∷ bs) = go (is_delimiter b)
  where
    go : (t : Bool) → ScansShort (cond t (special_at (place + 1) b bs) (row_at place (b ∷ bs)))
    go true = special_short (place + 1) b bs
    go false = row_at_short place (b ∷ bs)

pub at_short : (text : List ℕ) (place : ℕ) → ScansShort (token_at text place)
unfolding token_at
at_short text place = let rest = drop place text in from_short (place + blanks false rest) (drop (blanks false rest) rest)
