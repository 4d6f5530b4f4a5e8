-- What holds of filters.
use Rattle.std.specs.Prelude.{◌≡◌, ℕ, zero, suc, ◌+◌, ◌/◌, ◌%◌, ◌<◌, ◌≤◌, nat_lt, List, [], ◌∷◌, length, drop, if◌then◌else◌, All}
use Rattle.filter_tower.specs.declared.tower.FilterKind.TheVariants.{Hex}
use Rattle.filter_tower.specs.declared.tower.FilterLayer.{FilterLayer}
use Rattle.filter_tower.specs.declared.standing.FilterState.TheVariants.{Open}
use Rattle.filter_tower.specs.Layers.{IsTower, below_at, kind_at, empty_standing}
use Rattle.data_filters.specs.declared.given.Given.{Given}
use Rattle.data_filters.specs.declared.given.Given.TheVariants.{Byte, End, Bad}
use Rattle.data_filters.specs.declared.reading.Reading.{Reading}
use Rattle.data_filters.specs.Rests.{Rest, byte, ended, broken, onto}
use Rattle.data_filters.specs.Decoded.{filtered}
use Rattle.data_filters.specs.Layers.{Call, source_of, standing_at, rest, taking, give}

-- the answer of a call after so many others
abbrev pub answer : ℕ → Call → Reading → Given
answer n call reading = (call (taking n call reading)).0

-- the byte of a rest behind so many others; after the last byte, the end or the wrong byte, each time
abbrev pub given_at : ℕ → Rest → Given
given_at n ended = End
given_at n broken = Bad
given_at zero (byte b rest) = Byte b
given_at (suc n) (byte b rest) = given_at n rest

-- Where only its own calls are made, a layer gives what it would still give, and then stays at its end or wrong byte.
abbrev pub GivesItsRest : List ℕ → List FilterLayer → ℕ → Reading → Type 0
GivesItsRest text layers layer reading =
    IsTower layers → layer ≤ length layers → length layers ≤ length reading.standings
    → (n : ℕ) → answer n (give text (source_of layers layer)) reading ≡ given_at n (rest text (source_of layers layer) reading)

-- A layer over the text that has given nothing gives the filtered text, and then ends or stays at a wrong byte.
abbrev pub GivesFilteredText : List ℕ → List FilterLayer → ℕ → Reading → Type 0
GivesFilteredText text layers k reading =
    IsTower layers → k < length layers → length layers ≤ length reading.standings → below_at layers k ≡ 0 → standing_at reading k ≡ empty_standing Open
    → (n : ℕ) → answer n (give text (source_of layers (k + 1))) reading ≡ given_at n (filtered (kind_at layers k) (drop reading.place text))

-- the hexadecimal digit of a number below 16
abbrev pub digit_of : ℕ → ℕ
digit_of n = if nat_lt n 10 then n + 48 else n + 55

-- two digits for each byte, and then `>`
abbrev pub spelled : List ℕ → List ℕ
spelled [] = 62 ∷ []
spelled (b ∷ bs) = digit_of (b / 16) ∷ digit_of (b % 16) ∷ spelled bs

-- Every list of bytes comes back from its spelling, and then the end.
abbrev pub ComesBack : List ℕ → Type 0
ComesBack bytes = All (λ b. b < 256) bytes → filtered Hex (spelled bytes) ≡ onto bytes ended
