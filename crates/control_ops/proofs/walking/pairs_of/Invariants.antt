use Rattle.std.proofs.Common.{◌≡◌, [], drop}
use Rattle.ps_operator.specs.Tree.{reads}
use Rattle.control_ops.specs.Loops.{pairs_from}
use Rattle.control_ops.proofs.walking.pairs_of.Given as goal

-- what is left gives what the whole gives
abbrev pub invariant-loop-at : goal.invariant-loop-at
invariant-loop-at g l =
    let log = g.M.Mem.log in
    record {
      told : reads (pairs_from l.dict (drop l.at l.keys) l.pairs) (log l.mem) ≡ reads (pairs_from l.dict l.keys []) (log l.fn.mem);
      view : (log l.mem).view ≡ (log l.fn.mem).view;
    }
