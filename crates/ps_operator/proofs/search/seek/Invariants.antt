use Rattle.std.proofs.Common.{◌≡◌, drop}
use Rattle.ps_operator.specs.Tree.{reads}
use Rattle.ps_operator.specs.Keys.{seek}
use Rattle.ps_operator.proofs.search.seek.Given as goal

-- what is left finds what the whole does
abbrev pub invariant-loop-depth : goal.invariant-loop-depth
invariant-loop-depth g l =
    let log = g.M.Mem.log in
    record {
      found : reads (seek (drop l.depth l.dicts) l.key) (log l.mem) ≡ reads (seek l.dicts l.key) (log l.fn.mem);
      view : (log l.mem).view ≡ (log l.fn.mem).view;
    }
