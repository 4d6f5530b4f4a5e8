use Rattle.std.proofs.Common.{◌≡◌, true, drop, length}
use Rattle.std.specs.Prelude.{reverse}
use Rattle.ps_meaning.specs.Answer.{changed_in}
use Rattle.ps_operator.specs.Standing.{is_array, Stays}
use Rattle.ps_operator.specs.Storing.{item_stores}
use Rattle.error_ops.specs.Recording.{stack_stores}
use Rattle.error_ops.proofs.recording.store_stack.Given as goal

-- what is left changes what the whole changes
abbrev pub invariant-loop-at : goal.invariant-loop-at
invariant-loop-at g l =
    let log = g.M.Mem.log in
    record {
      stored : changed_in (log l.mem) (item_stores l.array l.at (drop l.at (reverse l.objects))) ≡ changed_in (log l.fn.mem) (stack_stores l.array l.objects);
      stays : Stays (log l.fn.mem).view (log l.mem).view;
      array : is_array (log l.mem).view l.array ≡ true;
      len : l.len ≡ length l.objects;
    }
