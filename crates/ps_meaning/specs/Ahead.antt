-- Names that are still to come.
use Rattle.std.specs.Prelude.{◌≡◌, ℕ, ◌≤◌, ◌<◌, ◌⊎◌, true, List, [], ◌∷◌, None, ⊤}
use Rattle.std.specs.List.{AllByRecursion}
use Rattle.ps_objects.specs.declared.cell.Cell.{Cell}
use Rattle.ps_objects.specs.declared.cell.SaveName.{SaveName}
use Rattle.ps_memory.specs.Frame.{later}
use Rattle.ps_meaning.specs.Sound.{World}

-- a save that was made before this place of a section
abbrev pub IsMadeBefore : ℕ → ℕ → SaveName → Type 0
IsMadeBefore section count s = (s.section < section) ⊎ ((s.section ≡ section) × (s.count < count))

-- each save was made after those behind it
abbrev pub Fall : List SaveName → Type 0
Fall [] = ⊤
Fall (r ∷ rs) = AllByRecursion (λ q. later r q ≡ true) rs × Fall rs

-- No cell or save has a name of the section from the count on, or of a later section. The saves fall, and none is of section 0.
pub record IsAhead (W : World) (count : ℕ) : Type 0 where
  pub here : (c : Cell) → c.section ≡ W.section → count ≤ c.count → W.shapes c ≡ None
  pub later : (c : Cell) → W.section < c.section → W.shapes c ≡ None
  pub saves : AllByRecursion (IsMadeBefore W.section count) W.saves
  pub fall : Fall W.saves
  pub begun : AllByRecursion (λ r. 1 ≤ r.section) W.saves
  pub section : 1 ≤ W.section
