-- The value of an option.
use Rattle.std.specs.Prelude.{ℕ, ◌+◌, ◌-◌, ◌*◌, Bool, ◌&&◌, List, length, nat_le, Option, Some, None, if◌then◌else◌}
use Rattle.std.specs.List.{fold, list_all}
use Rattle.std.specs.Char.{is_ascii_digit}

-- the number that a row of decimal digits writes
abbrev pub decimal_value : List ℕ → ℕ
decimal_value digits = fold (λ value digit. value * 10 + (digit - 48)) 0 digits

-- 1 to 9 decimal digits and nothing else
abbrev pub is_value : List ℕ → Bool
is_value word = nat_le 1 (length word) && nat_le (length word) 9 && list_all is_ascii_digit word

-- the number of a word that is a value from 1 to a greatest one
abbrev pub number_up_to : ℕ → List ℕ → Option ℕ
number_up_to most word =
    if is_value word && nat_le 1 (decimal_value word) && nat_le (decimal_value word) most then Some (decimal_value word) else None
