use Rattle.std.proofs.Common.{◌≡◌, ◌≤◌, ℕ, drop}
use Rattle.ps_meaning.specs.Answer.{changed_in}
use Rattle.vm_mem.specs.Conditions.{MayMake}
use Rattle.ps_gather.specs.Cells.{cell_at, changes_of}
use Rattle.ps_gather.proofs.cells.make_cells.Given as goal

-- what is left makes what the whole makes, and the names that are left are free
abbrev pub invariant-loop-at : goal.invariant-loop-at
invariant-loop-at g l =
    let log = g.M.Mem.log in
    record {
      made : changed_in (log l.mem) (changes_of l.state l.at (drop l.at l.cells)) ≡ changed_in (log l.fn.mem) (changes_of l.state 0 l.cells);
      free : (n : ℕ) → l.at ≤ n → MayMake (log l.mem).view (cell_at l.state n);
    }
