-- What a source gives and a sink takes, where they tell it, and counts of faults.
use Rattle.std.specs.Prelude.{◌≡◌, ℕ, ◌+◌, ◌-◌, ◌^◌, ◌≤◌, ◌↔◌, List, [], ◌++◌, length, take, min, Option, option_map, IfSome}

-- a count in a u64 after one more; at its type's end it stays there
abbrev pub raised : ℕ → ℕ
raised count = min (count + 1) (2 ^ 64 - 1)

-- a count that rose; one at its type's end counts as risen
abbrev pub HasRisen : ℕ → ℕ → Type 0
HasRisen before after = raised before ≤ after

-- the bytes left before are the given ones and those left after; a source that doesn't tell keeps not telling
abbrev pub Gives : List ℕ → Option (List ℕ) → Option (List ℕ) → Type 0
Gives given before after = before ≡ option_map (λ rest. given ++ rest) after

-- where a source tells, it gives no byte exactly at its end
abbrev pub GivesNoneAtEnd : ℕ → Option (List ℕ) → Type 0
GivesNoneAtEnd count before = IfSome before (λ bytes. (count ≡ 0) ↔ (bytes ≡ []))

-- the piece is appended; a sink that doesn't tell keeps not telling
abbrev pub Appends : List ℕ → Option (List ℕ) → Option (List ℕ) → Type 0
Appends piece before after = after ≡ option_map (λ bytes. bytes ++ piece) before

-- some front of the piece is appended
abbrev pub AppendsFront : List ℕ → Option (List ℕ) → Option (List ℕ) → Type 0
AppendsFront piece before after = (n : ℕ) × (n ≤ length piece) × Appends (take n piece) before after
