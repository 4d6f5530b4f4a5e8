use Rattle.std.proofs.Common.{◌≡◌, ◌-◌, length}
use Rattle.ps_operator.specs.Tree.{reads}
use Rattle.array_ops.specs.Intervals.{storable_from, storable_items}
use Rattle.array_ops.proofs.intervals.storable_items.Given as goal

-- what is left gives what the whole gives
abbrev pub invariant-loop-at : goal.invariant-loop-at
invariant-loop-at g l =
    let log = g.M.Mem.log in
    record {
      told : reads (storable_from l.cell l.array l.at (l.array.len - l.at) l.items) (log l.mem) ≡ reads (storable_items l.cell l.array) (log l.fn.mem);
      length : length l.items ≡ l.at;
      view : (log l.mem).view ≡ (log l.fn.mem).view;
    }
