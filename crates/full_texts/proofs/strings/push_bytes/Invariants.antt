use Rattle.std.proofs.Common.{◌≡◌, ◌-◌}
use Rattle.ps_operator.specs.Tree.{reads}
use Rattle.full_texts.specs.Bytes.{bytes_shown}
use Rattle.full_texts.proofs.strings.push_bytes.Given as goal

-- what is left gives what the whole gives
abbrev pub invariant-loop-at : goal.invariant-loop-at
invariant-loop-at g l =
    let log = g.M.Mem.log in
    record {
      told : reads (bytes_shown l.state l.part l.at (l.part.len - l.at) l.text) (log l.mem) ≡ reads (bytes_shown l.state l.part 0 l.part.len l.fn.text) (log l.fn.mem);
      view : (log l.mem).view ≡ (log l.fn.mem).view;
    }
