-- What the tests know of a save that is closed.
use Rattle.std.specs.Prelude.{◌≡◌, [], ◌∷◌, Option, MatchOption}
use Rattle.ps_objects.specs.declared.cell.SaveName.{SaveName}
use Rattle.vm_journal.specs.Part.{Part, LaterThanAll}

-- the newest save is closed, if there is one: its copy is in place, and the older saves stay, whose names are all earlier
abbrev pub ClosesOne : Part → Part → Option SaveName → Type 0
ClosesOne old new s = MatchOption s (old.kept ≡ []) (λ s. (old.kept ≡ (s, new.cells) ∷ new.kept) × LaterThanAll s new.kept)
