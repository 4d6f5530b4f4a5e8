use Rattle.std.proofs.Common.{◌≡◌, true, length}
use Rattle.ps_meaning.specs.Answer.{changed_in}
use Rattle.object_ops.specs.Binding.{bound_stores, stores_stand}
use Rattle.object_ops.proofs.binding.Binder.store.Given as goal

-- what is left changes what the whole changes
abbrev pub invariant-loop-bound : goal.invariant-loop-bound
invariant-loop-bound g l =
    let log = g.M.Mem.log in
    record {
      stored : changed_in (log l.mem) (bound_stores l.self.stores) ≡ changed_in (log l.fn.mem) (bound_stores l.fn.self.stores);
      stand : stores_stand (log l.mem).view l.self.stores ≡ true;
    }

abbrev pub decreases-loop-bound : goal.decreases-loop-bound
decreases-loop-bound g l = length l.self.stores
