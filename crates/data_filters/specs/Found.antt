-- What is found where a code is read ahead.
use Rattle.std.specs.Prelude.{◌≡◌, ℕ, ◌+◌, ◌*◌, Bool, true, false, not, ◌==◌, nat_eq, ◌&&◌, nat_lt, List, [], ◌∷◌, length, drop, replicate, if◌then◌else◌, Option, Some, None}
use Rattle.std.specs.Char.{digit_value}
use Rattle.std.specs.List.{starts_with}
use Rattle.filter_tower.specs.declared.tower.FilterKind.{FilterKind}
use Rattle.filter_tower.specs.declared.standing.FilterState.TheVariants.{Open, Ended}
use Rattle.data_filters.specs.declared.given.Given.{Given}
use Rattle.data_filters.specs.declared.given.Given.TheVariants.{Byte, End, Bad}
use Rattle.data_filters.specs.declared.code.Code.{Code}
use Rattle.data_filters.specs.declared.code.Code.TheVariants.{Gives, Ends, EndsWithSource, Wrong}
use Rattle.data_filters.specs.declared.code.Found.{Found}
use Rattle.data_filters.specs.declared.reading.Reading.{Reading}
use Rattle.data_filters.specs.Rests.{Rest, byte, ended, behind}
use Rattle.filter_tower.specs.declared.tower.FilterKind.TheVariants.{RunLength}
use Rattle.data_filters.specs.Codes.{passes, code, cut_group, front, literal_of}
use Rattle.data_filters.specs.Decoded.{decoded, more_given}
use Rattle.data_filters.specs.Layers.{pending, standing_at, put, at_end, at_fault}

-- behind a code that gives bytes the others come, or the end, where it was read with the code
abbrev pub Leaves : FilterKind → Rest → Code → Bool → Rest → Type 0
Leaves kind old (Gives bytes taken) is_cut new =
    (so_far : ℕ) → decoded kind so_far 0 (behind (passes kind) taken old) ≡ (if is_cut then ended else decoded kind so_far 0 new)
Leaves kind old (Ends taken) is_cut new = Unit {0}
Leaves kind old EndsWithSource is_cut new = Unit {0}
Leaves kind old Wrong is_cut new = Unit {0}

-- the next code was found, and this is left
pub record Finds (kind : FilterKind) (so_far : ℕ) (old : Rest) (found : Found) (new : Rest) : Type 0 where
  pub code_is : found.code ≡ code kind so_far old
  pub leaves : Leaves kind old found.code found.is_cut new

-- a code that was read up to its last byte, and one that was read up to the end behind it
abbrev pub whole : Code → Found
whole c = record { code = c; is_cut = false }

-- what was found, where the source came to its end in it
abbrev pub cut : Code → Found
cut c = record { code = c; is_cut = true }

-- what is found where no first digit comes
abbrev pub without_digit : Given → Found
without_digit (Byte b) = whole (if b == 62 then Ends 1 else Wrong)
without_digit End = whole EndsWithSource
without_digit Bad = whole Wrong

-- what is found behind a first digit of this value
abbrev pub behind_digit : ℕ → Given → Found
behind_digit high (Byte b) =
    if b == 62 then cut (Gives ((high * 16) ∷ []) 1)
    else (if nat_lt (digit_value b) 16 then whole (Gives ((high * 16 + digit_value b) ∷ []) 2)
    else whole Wrong)
behind_digit high End = cut (Gives ((high * 16) ∷ []) 1)
behind_digit high Bad = whole Wrong

-- what is found where a group lacks so many characters, and what comes is none
abbrev pub without_character : ℕ → ℕ → Given → Found
without_character missing value (Byte b) = whole (if b == 122 && missing == 5 then Gives (0 ∷ 0 ∷ 0 ∷ 0 ∷ []) 1 else Wrong)
without_character missing value End = cut (cut_group missing value EndsWithSource)
without_character missing value Bad = whole Wrong

-- what is found behind `~`
abbrev pub behind_tilde : ℕ → ℕ → Given → Found
behind_tilde missing value (Byte b) = if b == 62 then cut (cut_group missing value (Ends 2)) else whole Wrong
behind_tilde missing value End = whole Wrong
behind_tilde missing value Bad = whole Wrong

-- what is found behind the length of a repeat
abbrev pub behind_length : ℕ → Given → Found
behind_length n (Byte b) = whole (Gives (b ∷ replicate n b) 2)
behind_length n End = whole (Ends 1)
behind_length n Bad = whole Wrong

-- what is found where a byte gives itself
abbrev pub by_itself : Given → Found
by_itself (Byte b) = whole (Gives (b ∷ []) 1)
by_itself End = whole EndsWithSource
by_itself Bad = whole Wrong

-- the next byte of a code is given, if one is left
abbrev pub GivesPending : ℕ → Reading → Option ℕ → Reading → Type 0
GivesPending k old None new = (pending (standing_at old k) ≡ []) × (new ≡ old)
GivesPending k old (Some b) new =
    (pending (standing_at old k) ≡ b ∷ drop ((standing_at old k).from + 1) (standing_at old k).code)
    × (new ≡ put k (record (standing_at old k) { from = (standing_at old k).from + 1 }) old)

-- what is found behind the length of a literal run, where these bytes came
abbrev pub literal_found : List ℕ → Bool → Found
literal_found bytes is_cut = record { code = literal_of (Some bytes); is_cut = is_cut }

-- the bytes of a literal run were found, and this is left
pub record FindsLiteral (count : ℕ) (old : Rest) (found : Found) (new : Rest) : Type 0 where
  pub code_is : found.code ≡ literal_of (front count old)
  pub leaves : (first : ℕ) → Leaves RunLength (byte first old) found.code found.is_cut new

-- the first byte of a code that was read ahead is given
abbrev pub begun : ℕ → ℕ → Bool → Reading → Code → Given × Reading
begun k so_far is_cut reading (Gives [] taken) = (Bad, put k at_fault reading)
begun k so_far is_cut reading (Gives (b ∷ bs) taken) =
    (Byte b, put k (record { code = b ∷ bs; from = 1; given = more_given so_far (length (b ∷ bs)); state = if is_cut then Ended else Open }) reading)
begun k so_far is_cut reading (Ends taken) = (End, put k at_end reading)
begun k so_far is_cut reading EndsWithSource = (End, put k at_end reading)
begun k so_far is_cut reading Wrong = (Bad, put k at_fault reading)

-- whether a part ends where this comes of the text, and how many bytes its end takes
abbrev pub part_end : ℕ → List ℕ → ℕ → List ℕ → Option ℕ
part_end count [] so_far text = if not (count == 0) && so_far == count then Some 0 else None
part_end count (m ∷ ms) so_far text = if starts_with nat_eq text (m ∷ ms) then Some (length (m ∷ ms)) else None
