use Rattle.std.proofs.Common.{◌≡◌, ◌-◌}
use Rattle.ps_operator.specs.Tree.{reads}
use Rattle.array_ops.specs.Spreading.{pushed_from}
use Rattle.array_ops.proofs.spreading.push_items.Given as goal

-- what is left gives what the whole gives
abbrev pub invariant-loop-at : goal.invariant-loop-at
invariant-loop-at g l =
    let log = g.M.Mem.log in
    record {
      told : reads (pushed_from l.array l.at (l.array.len - l.at) l.operands) (log l.mem) ≡ reads (pushed_from l.array 0 l.array.len l.fn.operands) (log l.fn.mem);
      view : (log l.mem).view ≡ (log l.fn.mem).view;
    }
