-- The entries of a dictionary after writes.
use Rattle.std.specs.Prelude.{cond, List, [], ◌∷◌}
use Rattle.ps_objects.specs.declared.cell.Cell.{Cell}
use Rattle.ps_objects.specs.declared.place.Loc.{Loc}
use Rattle.ps_objects.specs.declared.place.Loc.TheVariants as loc
use Rattle.ps_objects.specs.declared.place.Value.{Value}
use Rattle.ps_memory.specs.Memory.{Content, entry, put_content, Action, store}
use Rattle.ps_memory.specs.Ownership.{same_cell}
use Rattle.overlay_steps.specs.declared.pile.Step.{Step}
use Rattle.overlay_steps.specs.Pile.{action_of}

-- what a dictionary holds with a value at a place, if the place is an entry of it
abbrev pub value_put : Cell → Loc → Value → Content → Content
value_put d (loc.Entry e k) v x = cond (same_cell d e) (put_content (entry k) v x) x
value_put d _ v x = x

-- after a write
abbrev pub entry_put : Cell → Action → Content → Content
entry_put d (store l v) x = value_put d l v x
entry_put d _ x = x

-- after writes, the newest first in the list
abbrev pub entries_put : Cell → List Action → Content → Content
entries_put d [] x = x
entries_put d (w ∷ ws) x = entry_put d w (entries_put d ws x)

-- after steps, the oldest first in the list
abbrev pub entries_from : Cell → List Step → Content → Content
entries_from d [] x = x
entries_from d (s ∷ ss) x = entries_from d ss (entry_put d (action_of s.note) x)
