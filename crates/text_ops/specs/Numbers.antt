-- Numbers from texts and texts from numbers.
use Rattle.std.specs.Prelude.{ℕ, ℤ, pos, negsuc, ◌*ℤ◌, int_div, int_le, true, ◌&&◌, ◌||◌, nat_lt, nat_eq, List, [], Result, Ok, Err, if◌then◌else◌}
use Rattle.std.specs.Fmt.{digits, digits_onto, signed_decimal}
use Rattle.std.specs.Int.{w32, cast_unsigned}
use Rattle.ps_names.specs.declared.error_name.ErrorName.{ErrorName}
use Rattle.ps_names.specs.declared.error_name.ErrorName.TheVariants.{RangeCheck, TypeCheck}
use Rattle.ps_shapes.specs.declared.numbers.Real.{Real}
use Rattle.ps_objects.specs.declared.objects.Number.{Number}
use Rattle.ps_objects.specs.declared.objects.Number.TheVariants as number
use Rattle.plain_texts.specs.Reals.{real_text}
use Rattle.ps_scan.specs.Token.{token_at}
use Rattle.ps_scan.specs.declared.tokens.Token.{Token}
use Rattle.ps_scan.specs.declared.tokens.Token.TheVariants as token
use Rattle.ps_scan.specs.declared.tokens.Scan.{Scan}
use Rattle.ps_scan.specs.declared.tokens.Scan.TheVariants as scan

-- ---- the number that a text spells

-- the number, where nothing but white space and comments is left
abbrev pub number_alone : Number → Scan → Result Number ErrorName
number_alone n scan.End = Ok n
number_alone n _ = Err TypeCheck

-- the number that a token is, alone in its text
abbrev pub number_of_token : List ℕ → ℕ → Token → Result Number ErrorName
number_of_token text next (token.Integer n) = number_alone (number.Integer n) (token_at text next)
number_of_token text next (token.Real r) = number_alone (number.Real r) (token_at text next)
number_of_token text next _ = Err TypeCheck

-- the same of what stands at the front
abbrev pub number_at_front : List ℕ → Scan → Result Number ErrorName
number_at_front text (scan.Token t next) = number_of_token text next t
number_at_front text _ = Err TypeCheck

-- the one number that a text spells
abbrev pub number_in : List ℕ → Result Number ErrorName
number_in text = number_at_front text (token_at text 0)

-- ---- whole numbers and reals

-- -2^31 ≤ z < 2^31
abbrev pub within_32_bits : ℤ → Result ℤ ErrorName
within_32_bits z =
    if int_le (negsuc 2147483647) z && int_le z (pos 2147483647) then Ok z else Err RangeCheck

-- the number without its fraction
abbrev pub integer_from : Number → Result ℤ ErrorName
integer_from (number.Integer n) = Ok n
integer_from (number.Real r) = within_32_bits (int_div r.count (pos 16777216))

-- the number as a real
abbrev pub real_from : Number → Real
real_from (number.Integer n) = record { count = n *ℤ pos 16777216 }
real_from (number.Real r) = r

-- ---- numbers in a base

-- the digits of a number of at most so many bits, in capitals
unfoldable pub digits_within : ℕ → ℕ → ℕ → List ℕ
digits_within bits base n = digits_onto bits base true n []

-- from 2 to 36
abbrev pub base_of : ℤ → Result ℕ ErrorName
base_of (pos b) = if nat_lt b 2 || nat_lt 36 b then Err RangeCheck else Ok b
base_of (negsuc b) = Err RangeCheck

-- the digits of 32 bits without a sign, in capitals
abbrev pub bits_text : ℕ → Result ℤ ErrorName → Result (List ℕ) ErrorName
bits_text base (Ok n) = Ok (digits base true (cast_unsigned w32 n))
bits_text base (Err e) = Err e

-- the plain text of a number
abbrev pub plain_number : Number → List ℕ
plain_number (number.Integer n) = signed_decimal n
plain_number (number.Real r) = real_text r.count

-- in base 10 the plain text, in others the bits without a fraction
abbrev pub number_text : ℕ → Number → Result (List ℕ) ErrorName
number_text base n =
    if nat_eq base 10 then Ok (plain_number n) else bits_text base (integer_from n)
