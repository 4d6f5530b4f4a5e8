-- Steps with an index of their places.
use Rattle.std.specs.Prelude.{◌≡◌, ℕ, suc, ◌+◌, Bool, true, false, cond, List, [], ◌∷◌, Option, Some, None, length, drop, ⊤}
use Rattle.std.specs.Map.{lookup}
use Rattle.std.specs.BTreeMap.{is_at}
use Rattle.std.specs.declared.cmp.Ordering.{Ordering}
use Rattle.ps_objects.specs.declared.cell.Cell.{Cell}
use Rattle.ps_objects.specs.declared.cell.SaveName.{SaveName}
use Rattle.ps_objects.specs.declared.place.Loc.{Loc}
use Rattle.ps_objects.specs.declared.place.Shape.{Shape}
use Rattle.ps_objects.specs.declared.place.Loc.TheVariants as loc
use Rattle.ps_objects.specs.declared.place.Value.{Value}
use Rattle.ps_objects.specs.declared.place.Value.TheVariants as value
use Rattle.ps_shapes.specs.Sheet.{Sheet}
use Rattle.access_log.specs.Order.{loc_cmp}
use Rattle.access_log.specs.Index.{told_of}
use Rattle.ps_memory.specs.Order.{cell_cmp}
use Rattle.ps_memory.specs.Memory.{same_save, spot_of, Action, store, save}
use Rattle.overlay_steps.specs.Newest.{newest, put_over, made}
use Rattle.std.specs.Option.{IsSome}
use Rattle.overlay_steps.specs.declared.pile.Note.{Note}
use Rattle.overlay_steps.specs.declared.pile.Note.TheVariants.{Fresh, Put, Save}
use Rattle.overlay_steps.specs.declared.pile.Step.{Step}
use Rattle.overlay_steps.specs.declared.pile.Mark.{Mark}
use Rattle.overlay_steps.specs.Pile.{action_of, acts, TellHidden}

-- the open saves, each with how many writes it and what is below it are, the newest first
abbrev pub marks : List Action → List Mark
marks [] = []
marks (save s ∷ ws) = record { name = s; until = suc (length ws) } ∷ marks ws
marks (_ ∷ ws) = marks ws

-- the mark of a save over so many writes
abbrev pub mark_over : SaveName → ℕ → Mark
mark_over s n = record { name = s; until = n + 1 }

-- one of the marks is of a save of this name
abbrev pub is_marked : SaveName → List Mark → Bool
is_marked s [] = false
is_marked s (m ∷ ms) = cond (same_save s m.name) true (is_marked s ms)

-- how many writes the newest open save and what is below it are
abbrev pub until_in : Option Mark → ℕ
until_in None = 0
until_in (Some m) = m.until

-- the index tells the newest store at each place
pub record IsIndexed (xs : List Step) (ns : List Mark) (entries : List (Loc × ℕ)) : Type 0 where
  pub hidden : TellHidden xs
  pub saves : ns ≡ marks (acts xs)
  pub index : (l : Loc) → lookup (is_at (loc_cmp l)) entries ≡ newest (spot_of l) (acts xs)

-- a store over the newest one at its place, or on top
abbrev pub stored_over : Loc → Value → List Action → List Action
stored_over l v ws = elim (put_over (spot_of l) (newest (spot_of l) ws) v ws) as (λ _. List Action) [ None ↦ store l v ∷ ws | Some us ↦ us ]

-- the shape that a map of cells tells of one
abbrev pub shape_of : Cell → List (Cell × Shape) → Option Shape
shape_of c es = lookup (is_at (cell_cmp c)) es

-- the cells that were made
abbrev pub TellsMade : List Step → List (Cell × Shape) → Type 0
TellsMade xs es = (c : Cell) → shape_of c es ≡ made c (acts xs)

-- the new map has this shape of one cell, and of any other what the old one has
abbrev pub HasAnew : Cell → Shape → List (Cell × Shape) → List (Cell × Shape) → Type 0
HasAnew d sh old new = (c : Cell) → shape_of c new ≡ cond (is_at (cell_cmp d) c) (Some sh) (shape_of c old)

-- the marks and the index tell of the steps, and the map the cells that they made
pub record IsSteps (xs : List Step) (ns : List Mark) (entries : List (Loc × ℕ)) (cells : List (Cell × Shape)) : Type 0 where
  pub indexed : IsIndexed xs ns entries
  pub made : TellsMade xs cells

-- ---- a step taken away

-- the marks without a step: that of a save goes
abbrev pub saves_less : Note → List Mark → List Mark
saves_less (Fresh c sh) ns = ns
saves_less (Put k v) ns = ns
saves_less (Save s) ns = drop 1 ns

-- what the index tells of a place without a step: at its own place what it hid
abbrev pub index_less : Note → Option ℕ → Loc → Option ℕ → Option ℕ
index_less (Fresh c sh) u l o = o
index_less (Put k v) u l o = cond (is_at (loc_cmp k) l) u o
index_less (Save s) u l o = o

-- the shape of a cell without a step: none of the cell that it made
abbrev pub made_less : Note → Cell → Option Shape → Option Shape
made_less (Fresh c sh) d o = cond (is_at (cell_cmp c) d) None o
made_less (Put k v) d o = o
made_less (Save s) d o = o

-- the new index tells what the old one told before the step
abbrev pub TellsLess : Step → List (Loc × ℕ) → List (Loc × ℕ) → Type 0
TellsLess x old new = (l : Loc) → told_of l new ≡ index_less x.note x.under l (told_of l old)

-- the new map has the cells that were made before the step
abbrev pub HasLess : Note → List (Cell × Shape) → List (Cell × Shape) → Type 0
HasLess x old new = (c : Cell) → shape_of c new ≡ made_less x c (shape_of c old)

-- the index has the place of a store
abbrev pub IsThere : Note → List (Loc × ℕ) → Type 0
IsThere (Fresh c sh) es = ⊤
IsThere (Put k v) es = IsSome (lookup (is_at (loc_cmp k)) es)
IsThere (Save s) es = ⊤

-- ---- what outlives a restore, put back

-- the steps with those kept on top, the first kept on top of all
abbrev pub laid : List Note → List Action → List Action
laid [] ws = ws
laid (k ∷ ks) ws = laid ks (action_of k ∷ ws)

-- the step opens a save of this name
abbrev pub opens : SaveName → Note → Bool
opens s (Save r) = same_save s r
opens s _ = false

-- the writes with paper in the place of what was found, if paper was
abbrev pub paper_put : Option Value → Sheet → List Action → List Action
paper_put None p ws = ws
paper_put (Some v) p ws = stored_over loc.Paper (value.Paper p) ws
