use Rattle.std.proofs.Common.{◌≡◌, ◌+◌, ◌≤◌, drop}
use Rattle.file_ops.specs.Reading.{line_length}
use Rattle.file_ops.proofs.reading.line_length.Given as goal

-- no line end was seen
abbrev pub invariant-loop-at : goal.invariant-loop-at
invariant-loop-at l = record {
  same : line_length l.text ≡ l.at + line_length (drop l.at l.text);
  short : l.at ≤ l.len;
}
