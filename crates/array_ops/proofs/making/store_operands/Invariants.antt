use Rattle.std.proofs.Common.{◌≡◌, ◌+◌, true, drop}
use Rattle.ps_meaning.specs.Answer.{changed_in}
use Rattle.ps_operator.specs.Standing.{is_array}
use Rattle.ps_operator.specs.Storing.{item_stores}
use Rattle.array_ops.specs.Making.{taken}
use Rattle.array_ops.proofs.making.store_operands.Given as goal

-- what is left changes what the whole changes
abbrev pub invariant-loop-at : goal.invariant-loop-at
invariant-loop-at g l =
    let log = g.M.Mem.log in
    record {
      stored : changed_in (log l.mem) (item_stores l.array l.at (drop l.at (taken l.below l.array.len l.operands))) ≡ changed_in (log l.fn.mem) (item_stores l.array 0 (taken l.below l.array.len l.operands));
      array : is_array (log l.mem).view l.array ≡ true;
      past : l.past ≡ l.below + l.array.len;
    }
