-- Printed integers are scanned back.
use Rattle.std.proofs.Common.{◌≡◌, ℕ, suc, ◌+◌, ◌^◌, ◌<◌, ◌≤◌, ℤ, Bool, true, false, ◌||◌, eqb, List, [], ◌∷◌, ◌++◌, length, take, drop, refl, ap, ◌∙◌, arith}
use Rattle.std.specs.Prelude.{pos, negsuc, neg_ℤ, ◌≤ℤ◌, ◌<ℤ◌, nat_lt, nat_le, Some, Ok}
use Rattle.std.specs.Char.{is_ascii_digit, digit_value}
use Rattle.std.specs.Fmt.{decimal, signed_decimal}
use Rattle.std.specs.List.{list_all, position_or_len, before_first}
use Rattle.std.specs.Str.Parse.{AllDigits, digits_value}
use Rattle.std.proofs.lemmas.Bool.Decides.{nat_tests}
use Rattle.std.proofs.lemmas.Fmt.{decimal_is_IsNumeral}
use Rattle.std.proofs.lemmas.Int.{ints}
use Rattle.std.proofs.lemmas.List.{take_all, take-append-le}
use Rattle.std.proofs.lemmas.Str.Parse.{digit_from_value}
use Rattle.ps_scan.specs.Characters.{is_white, is_special, is_delimiter, is_line_end, blanks, closing}
use Rattle.ps_scan.specs.Numbers.{is_sign, is_negative, unsigned, is_integer, in_32_bits, integer_value}
use Rattle.ps_scan.specs.Token.{scan_of, row_token, after_row, row_at, token_from, token_at}
use Rattle.ps_scan.specs.declared.tokens.Token.TheVariants as token
use Rattle.ps_scan.specs.declared.tokens.Scan.TheVariants as scan

digit_is_digit : (c : ℕ) → digit_value c < 10 → is_ascii_digit c ≡ true
digit_is_digit c h = let range = digit_from_value c h in grind (arith, nat_tests)

digit_is_regular : (c : ℕ) → digit_value c < 10 → is_delimiter c ≡ false
digit_is_regular c h = let range = digit_from_value c h in grind (arith, nat_tests)

digit_is_no_sign : (c : ℕ) → digit_value c < 10 → is_sign c ≡ false
digit_is_no_sign c h = let range = digit_from_value c h in grind (arith, nat_tests)

digit_is_no_minus : (c : ℕ) → digit_value c < 10 → eqb c 45 ≡ false
digit_is_no_minus c h = let range = digit_from_value c h in grind (arith, nat_tests)

white_delimits : (w : ℕ) → is_white w ≡ true → is_delimiter w ≡ true
white_delimits w white = ap (λ (b : Bool). b || is_special w) white

all_digits : (ds : List ℕ) → AllDigits 10 ds → list_all is_ascii_digit ds ≡ true
all_digits [] h = refl
all_digits (c ∷ cs) h = rw (digit_is_digit c h.0) (all_digits cs h.1)

digits_front : (ds rest : List ℕ) (w : ℕ) → AllDigits 10 ds → is_white w ≡ true → position_or_len is_delimiter (ds ++ (w ∷ rest)) ≡ length ds
digits_front [] rest w h white = rw (white_delimits w white) refl
digits_front (c ∷ cs) rest w h white = let behind = digits_front cs rest w h.1 white in rw (digit_is_regular c h.0) (omega arith)

unsigned_digits : (ds : List ℕ) → AllDigits 10 ds → unsigned ds ≡ ds
unsigned_digits [] h = refl
unsigned_digits (c ∷ cs) h = rw (digit_is_no_sign c h.0) refl

digits_not_negative : (ds : List ℕ) → AllDigits 10 ds → is_negative ds ≡ false
digits_not_negative [] h = refl
digits_not_negative (c ∷ cs) h = digit_is_no_minus c h.0

integer_row : (row ds : List ℕ) → unsigned row ≡ ds → AllDigits 10 ds → 0 < length ds → is_integer row ≡ true
unfolding is_integer
integer_row row ds e h some =
    let filled : eqb (length ds) 0 ≡ false = grind (arith, nat_tests) in
    rw (e, filled) (all_digits ds h)

value_row : (row ds : List ℕ) (negative : Bool) (n : ℕ) → is_negative row ≡ negative → unsigned row ≡ ds → digits_value 10 ds ≡ n → integer_value row ≡ in_32_bits negative n
unfolding integer_value
value_row row ds negative n a b c = rw (a, b, c) refl

token_row : (row : List ℕ) (z : ℤ) → is_integer row ≡ true → integer_value row ≡ Some z → row_token row ≡ Ok (token.Integer z)
unfolding row_token
token_row row z i v = rw (i, v) refl

within : (n : ℕ) → n < 2 ^ 31 → in_32_bits false n ≡ Some (pos n)
within n h = let test : nat_lt n (2 ^ 31) ≡ true = grind (arith, nat_tests) in rw test refl

within_below : (n : ℕ) → suc n ≤ 2 ^ 31 → in_32_bits true (suc n) ≡ Some (negsuc n)
within_below n h = let test : nat_le (suc n) (2 ^ 31) ≡ true = grind (arith, nat_tests) in rw test refl

printed_token : (z : ℤ) → neg_ℤ (pos (2 ^ 31)) ≤ℤ z → z <ℤ pos (2 ^ 31) → row_token (signed_decimal z) ≡ Ok (token.Integer z)
printed_token (pos n) low high =
    let short : n < 2 ^ 31 = omega (arith, ints) in
    let numeral = decimal_is_IsNumeral n (omega arith) in
    let ds = decimal n in
    token_row ds (pos n) (integer_row ds ds (unsigned_digits ds numeral.0.1) numeral.0.1 numeral.0.0)
    (value_row ds ds false n (digits_not_negative ds numeral.0.1) (unsigned_digits ds numeral.0.1) numeral.1 ∙ within n short)
printed_token (negsuc n) low high =
    let short : suc n ≤ 2 ^ 31 = omega (arith, ints) in
    let numeral = decimal_is_IsNumeral (suc n) (omega arith) in
    let ds = decimal (suc n) in
    token_row (45 ∷ ds) (negsuc n) (integer_row (45 ∷ ds) ds refl numeral.0.1 numeral.0.0)
    (value_row (45 ∷ ds) ds true (suc n) refl refl numeral.1 ∙ within_below n short)

printed_front : (z : ℤ) (rest : List ℕ) (w : ℕ) → neg_ℤ (pos (2 ^ 31)) ≤ℤ z → z <ℤ pos (2 ^ 31) → is_white w ≡ true →
    position_or_len is_delimiter (signed_decimal z ++ (w ∷ rest)) ≡ length (signed_decimal z)
printed_front (pos n) rest w low high white =
    let short : n < 2 ^ 31 = omega (arith, ints) in digits_front (decimal n) rest w (decimal_is_IsNumeral n (omega arith)).0.1 white
printed_front (negsuc n) rest w low high white =
    let short : suc n ≤ 2 ^ 31 = omega (arith, ints) in
    let behind = digits_front (decimal (suc n)) rest w (decimal_is_IsNumeral (suc n) (omega arith)).0.1 white in
    omega arith

drop_front : (xs ys : List ℕ) → drop (length xs) (xs ++ ys) ≡ ys
drop_front [] ys = refl
drop_front (x ∷ xs) ys = drop_front xs ys

digits_begin : (ds rest : List ℕ) (place : ℕ) → AllDigits 10 ds → 0 < length ds → (blanks false (ds ++ rest) ≡ 0) × (token_from place (ds ++ rest) ≡ row_at place (ds ++ rest))
unfolding blanks token_from
digits_begin [] rest place h some = absurd (omega arith)
digits_begin (c ∷ cs) rest place h some =
    let range = digit_from_value c h.0 in
    let line_end : is_line_end c ≡ false = grind (arith, nat_tests) in
    let percent : eqb c 37 ≡ false = grind (arith, nat_tests) in
    let white : is_white c ≡ false = grind (arith, nat_tests) in
    (rw (line_end, percent, white) refl, rw (digit_is_regular c h.0) refl)

printed_begin : (z : ℤ) (rest : List ℕ) (place : ℕ) → neg_ℤ (pos (2 ^ 31)) ≤ℤ z → z <ℤ pos (2 ^ 31) →
    (blanks false (signed_decimal z ++ rest) ≡ 0) × (token_from place (signed_decimal z ++ rest) ≡ row_at place (signed_decimal z ++ rest))
unfolding blanks token_from
printed_begin (pos n) rest place low high =
    let short : n < 2 ^ 31 = omega (arith, ints) in
    let numeral = decimal_is_IsNumeral n (omega arith) in
    digits_begin (decimal n) rest place numeral.0.1 numeral.0.0
printed_begin (negsuc n) rest place low high = (refl, refl)

printed_at : (z : ℤ) (rest : List ℕ) (w place : ℕ) → neg_ℤ (pos (2 ^ 31)) ≤ℤ z → z <ℤ pos (2 ^ 31) → is_white w ≡ true →
    row_at place (signed_decimal z ++ (w ∷ rest)) ≡ scan.Token (token.Integer z) (place + length (signed_decimal z) + closing (w ∷ rest))
unfolding row_at after_row
printed_at z rest w place low high white =
    let digits = signed_decimal z in
    let front : before_first is_delimiter (digits ++ (w ∷ rest)) ≡ digits =
    ap (λ (k : ℕ). take k (digits ++ (w ∷ rest))) (printed_front z rest w low high white) ∙ take-append-le (length digits) digits (w ∷ rest) (omega arith) ∙ take_all (length digits) digits (omega arith) in
    ap (λ (row : List ℕ). scan_of (row_token row) (place + length row + closing (drop (length row) (digits ++ (w ∷ rest))))) front
    ∙ ap (λ found. scan_of found (place + length digits + closing (drop (length digits) (digits ++ (w ∷ rest))))) (printed_token z low high)
    ∙ ap (λ (after : List ℕ). scan.Token (token.Integer z) (place + length digits + closing after)) (drop_front digits (w ∷ rest))

no_blank : (rest : List ℕ) (place : ℕ) → blanks false rest ≡ 0 → token_from (place + blanks false rest) (drop (blanks false rest) rest) ≡ token_from place rest
no_blank rest place e = ap (λ (k : ℕ). token_from (place + k) (drop k rest)) e ∙ ap (λ (k : ℕ). token_from k rest) (omega arith)

pub printed_scans : (z : ℤ) (w place : ℕ) (text rest : List ℕ) → neg_ℤ (pos (2 ^ 31)) ≤ℤ z → z <ℤ pos (2 ^ 31) → is_white w ≡ true →
    drop place text ≡ signed_decimal z ++ (w ∷ rest) → token_at text place ≡ scan.Token (token.Integer z) (place + length (signed_decimal z) + closing (w ∷ rest))
unfolding token_at
printed_scans z w place text rest low high white e =
    let begin = printed_begin z (w ∷ rest) place low high in
    no_blank (drop place text) place (ap (blanks false) e ∙ begin.0) ∙ ap (token_from place) e ∙ begin.1 ∙ printed_at z rest w place low high white
