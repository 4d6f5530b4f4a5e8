use Rattle.std.proofs.Common.{◌≡◌, ◌+◌, ◌<◌, ◌^◌, drop, length}
use Rattle.ps_operator.specs.Registers.{ops}
use Rattle.ps_operator.specs.Tree.{reads}
use Rattle.text_ops.specs.Listing.{full_lines}
use Rattle.text_ops.proofs.listing.push_full_lines.Given as goal

-- what is left gives what the whole gives
abbrev pub invariant-loop-depth : goal.invariant-loop-depth
invariant-loop-depth g l =
    let log = g.M.Mem.log in
    record {
      told : reads (full_lines l.state (drop l.depth (ops l.state)) l.text) (log l.mem) ≡ reads (full_lines l.state (ops l.state) l.fn.text) (log l.fn.mem);
      view : (log l.mem).view ≡ (log l.fn.mem).view;
      said : l.state.said + length l.text < 2 ^ 64;
    }
