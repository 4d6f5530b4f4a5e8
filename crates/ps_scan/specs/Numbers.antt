-- Which rows of regular characters are numbers, and their values.
use Rattle.std.specs.Prelude.{ℕ, ◌-◌, ◌^◌, ℤ, pos, neg_ℤ, ◌+ℤ◌, ◌-ℤ◌, Bool, true, false, not, ◌&&◌, ◌||◌, ◌==◌, nat_lt, nat_le, List, [], ◌∷◌, length, take, drop, filter, Option, Some, None, Result, if◌then◌else◌}
use Rattle.std.specs.Char.{is_ascii_digit, digit_value}
use Rattle.std.specs.List.{list_all, prefix_len, before_first, after_first}
use Rattle.std.specs.Str.Parse.{digits_value}
use Rattle.ps_objects.specs.declared.Real.{Real}
use Rattle.ps_fixed.specs.declared.Undefined.{Undefined}
use Rattle.ps_fixed.specs.Decimals.{signed_by, decimal_of}

-- + and -
abbrev pub is_sign : ℕ → Bool
is_sign b = b == 43 || b == 45

-- a minus sign in front
abbrev pub is_negative : List ℕ → Bool
is_negative [] = false
is_negative (b ∷ bs) = b == 45

-- a row without its sign
abbrev pub unsigned : List ℕ → List ℕ
unsigned [] = []
unsigned (b ∷ bs) = if is_sign b then bs else b ∷ bs

-- no bytes
abbrev pub is_empty : List ℕ → Bool
is_empty bs = length bs == 0

-- digits, at least one
abbrev pub is_digits : List ℕ → Bool
is_digits bs = not (is_empty bs) && list_all is_ascii_digit bs

-- an optional sign and digits
unfoldable pub is_integer : List ℕ → Bool
is_integer row = is_digits (unsigned row)

-- a number of this sign and magnitude, where it is within 32 signed bits
abbrev pub in_32_bits : Bool → ℕ → Option ℤ
in_32_bits negative n =
    if negative then (if nat_le n (2 ^ 31) then Some (neg_ℤ (pos n)) else None)
    else (if nat_lt n (2 ^ 31) then Some (pos n) else None)

-- the value of an integer within 32 signed bits
unfoldable pub integer_value : List ℕ → Option ℤ
integer_value row = in_32_bits (is_negative row) (digits_value 10 (unsigned row))

-- e and E
abbrev pub is_exponent_mark : ℕ → Bool
is_exponent_mark b = b == 101 || b == 69

-- a decimal point
abbrev pub is_point : ℕ → Bool
is_point b = b == 46

-- digits with an optional point before, among or after them, at least one digit
abbrev pub is_mantissa : List ℕ → Bool
is_mantissa bs =
    let whole = before_first is_point bs in
    let fraction = after_first is_point bs in
    list_all is_ascii_digit whole && list_all is_ascii_digit fraction && not (is_empty whole && is_empty fraction)

-- nothing, or its mark and an optional sign and digits
abbrev pub is_exponent : List ℕ → Bool
is_exponent [] = true
is_exponent (mark ∷ bs) = is_integer bs

-- the bytes in front of an exponent
abbrev pub mantissa : List ℕ → List ℕ
mantissa row = before_first is_exponent_mark (unsigned row)

-- an integer or a real: an optional sign, a mantissa and an optional exponent
unfoldable pub is_decimal : List ℕ → Bool
is_decimal row = is_mantissa (mantissa row) && is_exponent (drop (length (mantissa row)) (unsigned row))

-- the value of an exponent behind its mark
abbrev pub exponent_value : List ℕ → ℤ
exponent_value [] = pos 0
exponent_value (mark ∷ bs) = signed_by (is_negative bs) (digits_value 10 (unsigned bs))

-- the digits of a mantissa without zeros in front
abbrev pub significant : List ℕ → List ℕ
significant bs =
    let digits = filter is_ascii_digit bs in
    drop (prefix_len (λ d. d == 48) digits) digits

-- the first 18 significant digits
abbrev pub significand : List ℕ → ℕ
significand bs = digits_value 10 (take 18 (significant bs))

-- the power of ten that the significand is multiplied by, for an exponent
abbrev pub scale : List ℕ → ℤ → ℤ
scale bs exponent = exponent -ℤ pos (length (after_first is_point bs)) +ℤ pos (length (significant bs) - 18)

-- the value of an integer or a real, later digits counted as 0, to the nearest count, halves upward
unfoldable pub real_value : List ℕ → Result Real Undefined
real_value row =
    let exponent = exponent_value (drop (length (mantissa row)) (unsigned row)) in
    decimal_of (is_negative row) (significand (mantissa row)) (scale (mantissa row) exponent)

-- the sign between a base and its digits
abbrev pub is_hash : ℕ → Bool
is_hash b = b == 35

-- one or two digits that give a base from 2 to 36
abbrev pub is_base : List ℕ → Bool
is_base bs = is_digits bs && nat_le (length bs) 2 && nat_le 2 (digits_value 10 bs) && nat_le (digits_value 10 bs) 36

-- digits or letters of either case below the base, at least one
abbrev pub are_radix_digits : ℕ → List ℕ → Bool
are_radix_digits base bs = not (is_empty bs) && list_all (λ d. nat_lt (digit_value d) base) bs

-- a base, # and digits of that base
unfoldable pub is_radix : List ℕ → Bool
is_radix row =
    let base = before_first is_hash row in
    is_base base && are_radix_digits (digits_value 10 base) (after_first is_hash row)

-- the value of a radix number, less 2^32 from 2^31 on, where it is below 2^32
unfoldable pub radix_value : List ℕ → Option ℤ
radix_value row =
    let n = digits_value (digits_value 10 (before_first is_hash row)) (after_first is_hash row) in
    if nat_lt n (2 ^ 31) then Some (pos n)
    else (if nat_lt n (2 ^ 32) then Some (pos n -ℤ pos (2 ^ 32)) else None)
