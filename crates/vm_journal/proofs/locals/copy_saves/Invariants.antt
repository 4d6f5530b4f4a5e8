use Rattle.std.proofs.Common.{◌≡◌, take}
use Rattle.vm_journal.proofs.locals.copy_saves.Given as goal

abbrev pub invariant-loop-save : goal.invariant-loop-save
invariant-loop-save l = l.copy.items ≡ take l.save-index l.save-items
