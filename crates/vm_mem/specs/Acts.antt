-- What is looked at and done at items, entries and the paper.
use Rattle.std.specs.Prelude.{ℕ}
use Rattle.ps_objects.specs.declared.cell.Cell.{Cell}
use Rattle.ps_objects.specs.declared.key.Key.{Key}
use Rattle.ps_objects.specs.declared.place.Loc.TheVariants as loc
use Rattle.ps_objects.specs.declared.place.Value.TheVariants as value
use Rattle.ps_memory.specs.Memory.{Action, store, blank}
use Rattle.ps_meaning.specs.Answer.{Log, looked_in}

-- a look at an item is noted
abbrev pub item_looked_in : Log → Cell → ℕ → Log
item_looked_in log a i = looked_in log (loc.Item a i)

-- a look at an entry is noted
abbrev pub entry_looked_in : Log → Cell → Key → Log
entry_looked_in log d k = looked_in log (loc.Entry d k)

-- an entry is taken away: the absent value is stored there
abbrev pub removal : Cell → Key → Action
removal d k = store (loc.Entry d k) value.Absent

-- paper of a size is wiped: blank paper is stored
abbrev pub wiping : (width height : ℕ) → Action
wiping width height = store loc.Paper (value.Paper (blank width height))
