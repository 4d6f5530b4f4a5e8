-- What a layer gives, and where it and its sources stand then.
use Rattle.std.specs.Prelude.{ℕ, zero, suc, ◌+◌, Bool, true, false, ◌&&◌, nat_lt, nat_le, List, [], ◌∷◌, length, drop, slice_index, slice_index_or, slice_set, if◌then◌else◌}
use Rattle.filter_tower.specs.declared.tower.FilterKind.{FilterKind}
use Rattle.filter_tower.specs.declared.tower.FilterLayer.{FilterLayer}
use Rattle.filter_tower.specs.declared.standing.FilterState.{FilterState}
use Rattle.filter_tower.specs.declared.standing.FilterState.TheVariants.{Open, Ended, Failed}
use Rattle.filter_tower.specs.declared.standing.Standing.{Standing}
use Rattle.filter_tower.specs.Layers.{below_at, kind_at, empty_standing}
use Rattle.data_filters.specs.declared.given.Given.{Given}
use Rattle.data_filters.specs.declared.given.Given.TheVariants.{Byte, End, Bad}
use Rattle.data_filters.specs.declared.code.Code.{Code}
use Rattle.data_filters.specs.declared.code.Code.TheVariants.{Gives, Ends, EndsWithSource, Wrong}
use Rattle.data_filters.specs.declared.reading.Reading.{Reading}
use Rattle.data_filters.specs.Rests.{Rest, ended, broken, rest_of, onto}
use Rattle.data_filters.specs.Codes.{code, taken_by, length_taken}
use Rattle.data_filters.specs.Decoded.{more_given, decoded}

-- the section's text, or a layer at a place of the tower with its source
pub data Source : Type 0 where
  the_text : Source
  over : ℕ → FilterKind → Source → Source

-- a number's source; more steps down than the number aren't needed
abbrev pub source_within : ℕ → List FilterLayer → ℕ → Source
source_within zero layers n = the_text
source_within (suc steps) layers zero = the_text
source_within (suc steps) layers (suc k) = over k (kind_at layers k) (source_within steps layers (below_at layers k))

-- the source with this number: the text is 0, and the layer at a place has the next number
unfoldable pub source_of : List FilterLayer → ℕ → Source
source_of layers n = source_within n layers n

-- the source of the layer at a place
abbrev pub source_below : List FilterLayer → ℕ → Source
source_below layers k = source_of layers (below_at layers k)

-- a layer at its end, or closed, and one that has met a wrong byte
abbrev pub at_end : Standing
at_end = empty_standing Ended

-- a layer whose source is wrong
abbrev pub at_fault : Standing
at_fault = empty_standing Failed

-- the bytes of its newest code that a layer hasn't given
abbrev pub pending : Standing → List ℕ
pending standing = drop standing.from standing.code

-- where the layer at a place stands
abbrev pub standing_at : Reading → ℕ → Standing
standing_at reading k = slice_index_or reading.standings k at_end

-- the same with another standing of the layer at a place
abbrev pub put : ℕ → Standing → Reading → Reading
put k standing reading = record reading { standings = slice_set reading.standings k standing }

-- what a layer would still give
abbrev pub behind_code : FilterKind → Standing → Rest → Rest
behind_code kind standing source = elim standing.state [ Open ↦ decoded kind standing.given 0 source | Ended ↦ ended | Failed ↦ broken ]

-- what a layer would still give, with the bytes of its newest code
abbrev pub still : FilterKind → Standing → Rest → Rest
still kind standing source = onto (pending standing) (behind_code kind standing source)

-- what a source would still give
unfoldable pub rest : List ℕ → Source → Reading → Rest
rest text the_text reading = rest_of (drop reading.place text)
rest text (over k kind below) reading = still kind (standing_at reading k) (rest text below reading)

-- one call for the next byte: what it gives, and where all stand then
abbrev pub Call : Type 0
Call = Reading → Given × Reading

-- after so many calls
abbrev pub taking : ℕ → Call → Reading → Reading
taking zero call reading = reading
taking (suc n) call reading = taking n call (call reading).1

-- after the source has given what a code takes
abbrev pub taken_from : FilterKind → Rest → Call → Reading → Code → Reading
taken_from kind source call reading c = taking (length_taken kind source (taken_by c)) call reading

-- the end is taken, where the next code is one
abbrev pub end_taken : ℕ → FilterKind → Rest → Call → Reading → Code → Reading
end_taken k kind source call reading (Gives bytes taken) = reading
end_taken k kind source call reading (Ends taken) = put k at_end (taken_from kind source call reading (Ends taken))
end_taken k kind source call reading EndsWithSource = put k at_end (taken_from kind source call reading EndsWithSource)
end_taken k kind source call reading Wrong = reading

-- whether a layer has bytes of its newest code that it hasn't given
abbrev pub has_pending : Standing → Bool
has_pending standing = nat_lt standing.from (length standing.code)

-- whether a layer has given all bytes of its newest code, and goes on
abbrev pub is_open : FilterState → Bool
is_open Open = true
is_open Ended = false
is_open Failed = false

-- a layer that goes on, and has given all bytes of its newest code
abbrev pub is_spent : Standing → Bool
is_spent standing = is_open standing.state && nat_le (length standing.code) standing.from

-- when a code's last byte was given, an end that follows is taken at once
unfoldable pub settled : List ℕ → ℕ → FilterKind → Source → Call → Reading → Reading
settled text k kind below call reading =
    if is_spent (standing_at reading k)
    then end_taken k kind (rest text below reading) call reading (code kind (standing_at reading k).given (rest text below reading))
    else reading

-- the bytes of a code, of which the first is given
abbrev pub code_begun : ℕ → List ℕ → Standing
code_begun so_far bytes = record { code = bytes; from = 1; given = more_given so_far (length bytes); state = Open }

-- the next code is taken from where the source stands, and its first byte given
unfoldable pub code_taken : List ℕ → ℕ → FilterKind → Source → Call → Reading → Code → Given × Reading
code_taken text k kind below call reading (Gives [] taken) = (Bad, put k at_fault reading)
code_taken text k kind below call reading (Gives (b ∷ bs) taken) = (
  Byte b,
  settled text k kind below call
      (put k (code_begun (standing_at reading k).given (b ∷ bs)) (taken_from kind (rest text below reading) call reading (Gives (b ∷ bs) taken))),
)
code_taken text k kind below call reading (Ends taken) = (End, put k at_end (taken_from kind (rest text below reading) call reading (Ends taken)))
code_taken text k kind below call reading EndsWithSource = (End, put k at_end (taken_from kind (rest text below reading) call reading EndsWithSource))
code_taken text k kind below call reading Wrong = (Bad, put k at_fault reading)

-- one more byte of its newest code is given
abbrev pub byte_passed : ℕ → Reading → Reading
byte_passed k reading = put k (record (standing_at reading k) { from = (standing_at reading k).from + 1 }) reading

-- The bytes of a code are given one by one. With none left the next code is taken. After an end or a wrong byte the
-- layer stays there.
unfoldable pub gives_by : List ℕ → FilterState → List ℕ → ℕ → FilterKind → Source → Call → Call
gives_by (b ∷ more) state text k kind below call reading = (Byte b, settled text k kind below call (byte_passed k reading))
gives_by [] Open text k kind below call reading =
    code_taken text k kind below call reading (code kind (standing_at reading k).given (rest text below reading))
gives_by [] Ended text k kind below call reading = (End, reading)
gives_by [] Failed text k kind below call reading = (Bad, reading)

-- what a layer gives
abbrev pub layer_gives : List ℕ → ℕ → FilterKind → Source → Call → Call
layer_gives text k kind below call reading =
    gives_by (pending (standing_at reading k)) (standing_at reading k).state text k kind below call reading

-- a text gives its bytes in order
abbrev pub text_gives : List ℕ → Call
text_gives text reading =
    if nat_lt reading.place (length text) then (Byte (slice_index text reading.place), record reading { place = reading.place + 1 })
    else (End, reading)

-- what a source gives
unfoldable pub give : List ℕ → Source → Call
give text the_text reading = text_gives text reading
give text (over k kind below) reading = layer_gives text k kind below (give text below) reading
