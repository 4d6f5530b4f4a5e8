use Rattle.std.proofs.Common.{◌≡◌, ◌+◌, ◌-◌, ◌*◌}
use Rattle.ps_operator.specs.Tree.{reads}
use Rattle.full_texts.specs.Full.{items_shown, shown_within, items_within}
use Rattle.full_texts.proofs.arrays.+shown.Given as goal

abbrev pub decreases-push_items : goal.decreases-push_items
decreases-push_items g l = 3 * l.levels + 2

abbrev pub decreases-push_array : goal.decreases-push_array
decreases-push_array g l = 3 * l.levels

abbrev pub decreases-push_within : goal.decreases-push_within
decreases-push_within g l = 3 * l.levels + 1

-- what is left gives what the whole gives
abbrev pub invariant-push_items-loop-at : goal.invariant-push_items-loop-at
invariant-push_items-loop-at g l =
    let log = g.M.Mem.log in
    record {
      told : reads (items_shown l.state (shown_within l.levels l.state) l.array l.at (l.array.len - l.at) l.text) (log l.mem) ≡ reads (items_within l.levels l.state l.array l.fn.text) (log l.fn.mem);
      view : (log l.mem).view ≡ (log l.fn.mem).view;
    }
