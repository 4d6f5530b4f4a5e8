use Rattle.std.proofs.Common.{◌≡◌, ◌++◌, ◌-◌}
use Rattle.dump_text.specs.Papers.{rows_text}
use Rattle.dump_text.proofs.papers.push_rows.Given as goal

-- what is left gives what the whole gives
abbrev pub invariant-loop-row : goal.invariant-loop-row
invariant-loop-row l = l.text ++ rows_text l.stride (l.rows - l.row) l.rest ≡ l.fn.text ++ rows_text l.stride l.rows l.bytes
