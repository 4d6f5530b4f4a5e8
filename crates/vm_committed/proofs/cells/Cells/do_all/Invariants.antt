use Rattle.std.proofs.Common.{◌≡◌, drop}
use Rattle.ps_memory.specs.Writes.{apply}
use Rattle.vm_mem.specs.Writes.{actions}
use Rattle.vm_committed.specs.Undo.{writes_undone}
use Rattle.vm_committed.proofs.cells.Cells.do_all.Given as goal

-- the writes from a depth on are done, and can be taken back
abbrev pub invariant-loop-depth : goal.invariant-loop-depth
invariant-loop-depth l = (l.self ≡ apply (drop l.depth (actions l.writes)) l.fn.self)
    × (writes_undone l.undos l.self ≡ writes_undone l.fn.undos l.fn.self)
    × (l.self.kept ≡ l.fn.self.kept)
