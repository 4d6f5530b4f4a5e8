use Rattle.std.proofs.Common.{◌≡◌, drop}
use Rattle.vm_committed.specs.Undo.{none_opens}
use Rattle.vm_committed.proofs.quick.none_opens.Given as goal

-- what is left opens a save where the whole does
abbrev pub invariant-loop-depth : goal.invariant-loop-depth
invariant-loop-depth l = none_opens l.writes ≡ none_opens (drop l.depth l.writes)
