use Rattle.std.proofs.Common.{◌≡◌, drop}
use Rattle.ps_operator.specs.Tree.{reads}
use Rattle.dict_ops.specs.Stack.{holder}
use Rattle.dict_ops.proofs.dict_stack.holder.Given as goal

-- what is left finds what the whole does
abbrev pub invariant-loop-depth : goal.invariant-loop-depth
invariant-loop-depth g l =
    let log = g.M.Mem.log in
    record {
      found : reads (holder (drop l.depth l.dicts) l.key) (log l.mem) ≡ reads (holder l.dicts l.key) (log l.fn.mem);
      view : (log l.mem).view ≡ (log l.fn.mem).view;
    }
