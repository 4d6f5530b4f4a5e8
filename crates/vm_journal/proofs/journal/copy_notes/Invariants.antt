use Rattle.std.proofs.Common.{◌≡◌, ◌++◌}
use Rattle.vm_journal.proofs.journal.copy_notes.Given as goal

-- the copied notes and those to come are all
abbrev pub invariant-loop-at : goal.invariant-loop-at
invariant-loop-at l = l.copy.entries ++ l.at-iterator ≡ l.notes.entries
