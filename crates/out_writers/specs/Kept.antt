-- What is kept of papers and text.
use Rattle.std.specs.Prelude.{◌≡◌, ℕ, ◌≤◌, List, ◌++◌, length, take}
use Rattle.ps_shapes.specs.Sheet.{Sheet}
use Rattle.out_writers.specs.declared.kept.Kept.{Kept}

-- both lists grew by these
pub record KeepsAll (new old : Kept) (papers : List Sheet) (text : List ℕ) : Type 0 where
  pub pages : new.pages ≡ old.pages ++ papers
  pub said : new.text ≡ old.text ++ text

-- the list grew by a front of this one
abbrev pub GrowsByFront : {A : Type 0} → List A → List A → List A → Type 0
GrowsByFront new old items = (n : ℕ) × (n ≤ length items) × (new ≡ old ++ take n items)

-- both lists grew by fronts of these
pub record KeepsFront (new old : Kept) (papers : List Sheet) (text : List ℕ) : Type 0 where
  pub pages : GrowsByFront new.pages old.pages papers
  pub said : GrowsByFront new.text old.text text
