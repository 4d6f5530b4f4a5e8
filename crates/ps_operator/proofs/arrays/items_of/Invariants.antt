use Rattle.std.proofs.Common.{◌≡◌, ◌-◌, length}
use Rattle.ps_operator.specs.Tree.{reads}
use Rattle.ps_operator.specs.Arrays.{items_from, items_of}
use Rattle.ps_operator.proofs.arrays.items_of.Given as goal

-- what is left gives what the whole gives
abbrev pub invariant-loop-at : goal.invariant-loop-at
invariant-loop-at g l =
    let log = g.M.Mem.log in
    record {
      told : reads (items_from l.array l.at (l.array.len - l.at) l.items.items) (log l.mem) ≡ reads (items_of l.array) (log l.fn.mem);
      length : length l.items.items ≡ l.at;
      view : (log l.mem).view ≡ (log l.fn.mem).view;
    }
