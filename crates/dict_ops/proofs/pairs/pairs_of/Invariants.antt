use Rattle.std.proofs.Common.{◌≡◌, ◌-◌, []}
use Rattle.ps_operator.specs.Registers.{ops}
use Rattle.ps_operator.specs.Tree.{reads}
use Rattle.dict_ops.specs.Pairs.{pairs_from}
use Rattle.dict_ops.proofs.pairs.pairs_of.Given as goal

-- what is left gives what the whole gives
abbrev pub invariant-loop-n : goal.invariant-loop-n
invariant-loop-n g l =
    let log = g.M.Mem.log in
    record {
      told : reads (pairs_from (ops l.state) l.n (l.pairs - l.n) l.found) (log l.mem) ≡ reads (pairs_from (ops l.state) 0 l.pairs []) (log l.fn.mem);
      view : (log l.mem).view ≡ (log l.fn.mem).view;
    }
