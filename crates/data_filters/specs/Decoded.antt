-- The bytes of all codes up to the end.
use Rattle.std.specs.Prelude.{ℕ, zero, suc, ◌+◌, ◌-◌, ◌^◌, min, List, length, if◌then◌else◌}
use Rattle.filter_tower.specs.declared.tower.FilterKind.{FilterKind}
use Rattle.data_filters.specs.declared.code.Code.{Code}
use Rattle.data_filters.specs.declared.code.Code.TheVariants.{Gives, Ends, EndsWithSource, Wrong}
use Rattle.data_filters.specs.Rests.{Rest, byte, ended, broken, onto, rest_of}
use Rattle.data_filters.specs.Codes.{passes, code}

-- a count of bytes given stands still at its type's end
abbrev pub more_given : ℕ → ℕ → ℕ
more_given so_far n = min (so_far + n) (2 ^ 64 - 1)

-- what a code gives, before what comes of the rest behind it
abbrev pub through : Code → (ℕ → ℕ → Rest) → Rest
through (Gives bytes taken) later = onto bytes (later (length bytes) taken)
through (Ends taken) later = ended
through EndsWithSource later = ended
through Wrong later = broken

-- The bytes of all codes of a rest, whose first bytes belong to an earlier code: so many that aren't passed over.
-- They come up to the end or a wrong byte.
unfoldable pub decoded : FilterKind → ℕ → ℕ → Rest → Rest
decoded kind so_far (suc left) (byte b rest) = decoded kind so_far (if passes kind b then suc left else left) rest
decoded kind so_far zero (byte b rest) =
    through (code kind so_far (byte b rest))
    (λ n taken. decoded kind (more_given so_far n) (if passes kind b then taken else taken - 1) rest)
decoded kind so_far left ended = ended
decoded kind so_far left broken = through (code kind so_far broken) (λ n taken. broken)

-- the filtered text
abbrev pub filtered : FilterKind → List ℕ → Rest
filtered kind text = decoded kind 0 0 (rest_of text)
