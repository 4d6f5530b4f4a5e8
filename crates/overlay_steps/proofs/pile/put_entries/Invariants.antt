use Rattle.std.proofs.Common.{◌≡◌, drop}
use Rattle.overlay_steps.specs.Entries.{entries_from}
use Rattle.overlay_steps.proofs.pile.put_entries.Given as goal

-- what is left to be done gives the same
abbrev pub invariant-loop-place : goal.invariant-loop-place
invariant-loop-place l = entries_from l.dict (drop l.place l.items) l.content ≡ entries_from l.fn.dict l.fn.items l.fn.content
