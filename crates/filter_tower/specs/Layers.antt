-- The layers of a tower.
use Rattle.std.specs.Prelude.{◌≡◌, ℕ, ◌<◌, ◌≤◌, Bool, true, false, List, [], ◌∷◌, length, slice_index_or}
use Rattle.filter_tower.specs.declared.tower.FilterKind.{FilterKind}
use Rattle.filter_tower.specs.declared.tower.FilterKind.TheVariants.{Hex, Base85, RunLength, SubFile}
use Rattle.filter_tower.specs.declared.tower.FilterLayer.{FilterLayer}
use Rattle.filter_tower.specs.declared.standing.FilterState.{FilterState}
use Rattle.filter_tower.specs.declared.standing.Standing.{Standing}

-- Layers are numbered from 1, and 0 is the text itself; the layer at place k has the number k + 1.
abbrev pub layer_at : List FilterLayer → ℕ → FilterLayer
layer_at layers k = slice_index_or layers k (record { below = 0; kind = Hex })

-- the number of a layer's source
abbrev pub below_at : List FilterLayer → ℕ → ℕ
below_at layers k = (layer_at layers k).below

-- the kind of the layer at a place
abbrev pub kind_at : List FilterLayer → ℕ → FilterKind
kind_at layers k = (layer_at layers k).kind

-- a mark is sought in the text alone
abbrev pub needs_text : FilterKind → Bool
needs_text (SubFile count []) = false
needs_text (SubFile count (_ ∷ _)) = true
needs_text Hex = false
needs_text Base85 = false
needs_text RunLength = false

-- where a layer stands that has no bytes of a code
abbrev pub empty_standing : FilterState → Standing
empty_standing state = record { code = []; from = 0; given = 0; state = state }

-- each layer is over the text or a lower layer, and over the text where it seeks a mark
pub record IsTower (layers : List FilterLayer) : Type 0 where
  pub lower : (k : ℕ) → k < length layers → below_at layers k ≤ k
  pub marks : (k : ℕ) → k < length layers → needs_text (kind_at layers k) ≡ true → below_at layers k ≡ 0
