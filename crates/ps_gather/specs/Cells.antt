-- New cells: what they hold, and the changes that make them.
use Rattle.std.specs.Prelude.{ℕ, suc, ◌+◌, ◌≤◌, List, [], ◌∷◌, ◌++◌, length}
use Rattle.std.specs.List.{AllByRecursion}
use Rattle.ps_objects.specs.declared.cell.Cell.{Cell}
use Rattle.ps_objects.specs.declared.place.Shape.TheVariants as shape
use Rattle.ps_kinds.specs.declared.state.State.{State}
use Rattle.ps_memory.specs.Tree.{Change, makes}
use Rattle.ps_execution.specs.Gather.{mode_space, stores_items, stores_bytes}
use Rattle.ps_gather.specs.declared.cells.Content.{Content}
use Rattle.ps_gather.specs.declared.cells.Content.TheVariants.{Bytes, Items}

-- the cell that is made after n others, in the memory of the mode
abbrev pub cell_at : State → ℕ → Cell
cell_at s n = record { section = s.section; count = s.count + n; space = mode_space s.regs.global }

-- at most 65,535 bytes or items
abbrev pub IsSmall : Content → Type 0
IsSmall (Bytes bs) = length bs ≤ 65535
IsSmall (Items xs) = length xs ≤ 65535

-- the same of each
abbrev pub AreSmall : List Content → Type 0
AreSmall = AllByRecursion IsSmall

-- makes a cell and stores what it holds
abbrev pub made_of : Cell → Content → List Change
made_of c (Bytes bs) = makes c (shape.Str (length bs)) ∷ stores_bytes c 0 bs
made_of c (Items xs) = makes c (shape.Array (length xs)) ∷ stores_items c 0 xs

-- the same of cells in order, of which n were made before
abbrev pub changes_of : State → ℕ → List Content → List Change
changes_of s n [] = []
changes_of s n (x ∷ xs) = made_of (cell_at s n) x ++ changes_of s (suc n) xs
