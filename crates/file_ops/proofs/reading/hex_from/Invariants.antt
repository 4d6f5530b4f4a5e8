use Rattle.std.proofs.Common.{◌≡◌, ◌<◌, ◌≤◌, drop, length}
use Rattle.std.specs.Prelude.{IfSome}
use Rattle.file_ops.specs.Reading.{hex_from, no_hex}
use Rattle.file_ops.proofs.reading.hex_from.Given as goal

-- what is left gives what the whole gives
abbrev pub invariant-loop-at : goal.invariant-loop-at
invariant-loop-at l = record {
  same : hex_from l.len (drop l.at l.text) l.hex ≡ hex_from l.len (drop l.place l.text) (no_hex l.place);
  place : l.hex.place ≡ l.at;
  small : IfSome l.hex.first (λ f. f < 16);
  within : length l.hex.bytes ≤ l.len;
}
