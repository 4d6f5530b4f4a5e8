-- What flattening answers.
use Rattle.std.specs.Prelude.{◌≡◌, ℕ, ◌<◌, ◌≤◌, ⊤, Result, Ok, Err}
use Rattle.path_flat.specs.declared.refusal.FlatRefusal.{FlatRefusal}
use Rattle.path_flat.specs.declared.refusal.FlatRefusal.TheVariants as refusal

-- of a path with so many flattened points: the value, or the limit where they are more than 100,000, or want of memory
abbrev pub Answers : {A : Type 0} → ℕ → A → Result A FlatRefusal → Type 0
Answers points value (Ok answer) = (points ≤ 100000) × (answer ≡ value)
Answers points value (Err refusal.Limit) = 100000 < points
Answers points value (Err refusal.NoMemory) = ⊤
