-- Towers of layers.
use Rattle.std.specs.Prelude.{◌≡◌, ℕ, ◌-◌, Bool, true, false, [], ◌∷◌, ◌++◌}
use Rattle.filter_tower.specs.declared.tower.FilterKind.{FilterKind}
use Rattle.filter_tower.specs.declared.tower.Tower.{Tower}
use Rattle.filter_tower.specs.declared.standing.FilterState.{FilterState}
use Rattle.filter_tower.specs.declared.standing.FilterState.TheVariants.{Open, Ended, Failed}
use Rattle.filter_tower.specs.Layers.{empty_standing}
use Rattle.data_filters.specs.declared.reading.Reading.{Reading}
use Rattle.data_filters.specs.Layers.{standing_at}

-- where the text is at a place and the layers stand as they do
abbrev pub reading_of : Tower → ℕ → Reading
reading_of tower place = record { place = place; standings = tower.standings }

-- a layer is added that has given nothing, above the others, which stand as they did
pub record IsAdded (old new : Tower) (below : ℕ) (kind : FilterKind) : Type 0 where
  pub layers : new.layers ≡ old.layers ++ record { below = below; kind = kind } ∷ []
  pub standings : new.standings ≡ old.standings ++ empty_standing Open ∷ []

-- a layer in this state has come to its end
abbrev pub is_end : FilterState → Bool
is_end Open = false
is_end Ended = true
is_end Failed = false

-- whether a layer has come to its end or was closed
abbrev pub has_ended : Tower → ℕ → Bool
has_ended tower layer = is_end (standing_at (reading_of tower 0) (layer - 1)).state
