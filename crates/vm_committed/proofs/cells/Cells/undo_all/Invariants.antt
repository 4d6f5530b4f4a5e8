use Rattle.std.proofs.Common.{◌≡◌, [], length}
use Rattle.vm_committed.specs.Undo.{writes_undone}
use Rattle.vm_committed.proofs.cells.Cells.undo_all.Given as goal

-- what is left to be taken back gives the same
abbrev pub invariant-loop-undo : goal.invariant-loop-undo
invariant-loop-undo l = (writes_undone l.undos l.self ≡ writes_undone l.fn.undos l.fn.self) × (l.self.kept ≡ [])

abbrev pub decreases-loop-undo : goal.decreases-loop-undo
decreases-loop-undo l = length l.undos
