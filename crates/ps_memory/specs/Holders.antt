-- Whose the bytes of strings are.
use Rattle.std.specs.Prelude.{◌≡◌, Bool, true, false, Option, Some, None}
use Rattle.std.specs.FinMap.{get}
use Rattle.ps_objects.specs.declared.cell.Cell.{Cell}
use Rattle.ps_memory.specs.Memory.{Content, characters, Memory, part}

-- a cell stands and is a string's
abbrev pub holds_string : Option Content → Bool
holds_string (Some (characters n)) = true
holds_string _ = false

-- bytes stand under the cells of strings alone
abbrev pub HaveHolders : Memory → Type 0
HaveHolders M = (c : Cell) → holds_string (get (part M c) c) ≡ false → get M.strings c ≡ None
