use Rattle.std.proofs.Common.{◌≡◌, true, length}
use Rattle.ps_meaning.specs.Answer.{changed_in}
use Rattle.ps_operator.specs.Standing.{is_dict}
use Rattle.dict_ops.specs.Pairs.{pair_stores}
use Rattle.dict_ops.proofs.pairs.store_pairs.Given as goal

-- what is left changes what the whole changes
abbrev pub invariant-loop-pair : goal.invariant-loop-pair
invariant-loop-pair g l =
    let log = g.M.Mem.log in
    record {
      stored : changed_in (log l.mem) (pair_stores l.dict l.pairs) ≡ changed_in (log l.fn.mem) (pair_stores l.dict l.fn.pairs);
      dict : is_dict (log l.mem).view l.dict ≡ true;
    }

abbrev pub decreases-loop-pair : goal.decreases-loop-pair
decreases-loop-pair g l = length l.pairs
