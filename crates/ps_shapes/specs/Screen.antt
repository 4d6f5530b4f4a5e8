-- Thresholds.
use Rattle.std.specs.Prelude.{ℕ, ◌≡◌, ◌*◌, ◌<◌, List, [], length, slice_index}

-- rows of thresholds, or none, whose width is 0
pub record Screen : Type 0 where
  pub width : ℕ
  pub height : ℕ
  pub bytes : List ℕ

-- a table of this size with these thresholds, row by row
abbrev pub screen : (width height : ℕ) → List ℕ → Screen
screen width height bytes = record { width = width; height = height; bytes = bytes }

-- each row has its thresholds, each one a byte; without columns there are no rows
pub record IsScreen (s : Screen) : Type 0 where
  pub size : length s.bytes ≡ s.width * s.height
  pub rows : 0 < s.width → 0 < s.height
  pub none : s.width ≡ 0 → s.height ≡ 0
  pub small : (k : ℕ) → slice_index s.bytes k < 256
