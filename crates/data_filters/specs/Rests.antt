-- What a source would still give.
use Rattle.std.specs.Prelude.{◌≡◌, ℕ, zero, suc, ◌+◌, Bool, true, false, List, [], ◌∷◌, if◌then◌else◌}
use Rattle.data_filters.specs.declared.given.Given.{Given}
use Rattle.data_filters.specs.declared.given.Given.TheVariants.{Byte, End, Bad}

-- bytes, and then the end, or a place where no byte can be given
pub data Rest : Type 0 where
  byte : ℕ → Rest → Rest
  ended : Rest
  broken : Rest

-- a text gives its bytes, and then ends
abbrev pub rest_of : List ℕ → Rest
rest_of [] = ended
rest_of (b ∷ bs) = byte b (rest_of bs)

-- bytes in front of a rest
abbrev pub onto : List ℕ → Rest → Rest
onto [] rest = rest
onto (b ∷ bs) rest = byte b (onto bs rest)

-- the bytes of a rest
abbrev pub bytes_of : Rest → List ℕ
bytes_of (byte b rest) = b ∷ bytes_of rest
bytes_of ended = []
bytes_of broken = []

-- how many they are
abbrev pub size : Rest → ℕ
size (byte b rest) = 1 + size rest
size ended = 0
size broken = 0

-- a call on a source gives the first byte of its rest, if there is one, and the others are left
abbrev pub Yields : Rest → Given → Rest → Type 0
Yields old (Byte b) new = old ≡ byte b new
Yields old End new = (old ≡ ended) × (new ≡ ended)
Yields old Bad new = (old ≡ broken) × (new ≡ broken)

-- whether a byte comes
abbrev pub has_byte : Rest → Bool
has_byte (byte b rest) = true
has_byte ended = false
has_byte broken = false

-- how many bytes are so many that aren't passed over, with those passed over in front of each
abbrev pub reach : (ℕ → Bool) → ℕ → Rest → ℕ
reach passed zero rest = 0
reach passed (suc n) (byte b rest) = 1 + (if passed b then reach passed (suc n) rest else reach passed n rest)
reach passed (suc n) ended = 0
reach passed (suc n) broken = 0

-- what comes behind them
abbrev pub behind : (ℕ → Bool) → ℕ → Rest → Rest
behind passed zero rest = rest
behind passed (suc n) (byte b rest) = if passed b then behind passed (suc n) rest else behind passed n rest
behind passed (suc n) ended = ended
behind passed (suc n) broken = broken
