use Rattle.std.proofs.Common.{◌≡◌, ◌+◌, drop}
use Rattle.std.specs.List.{position_or_len}
use Rattle.ps_scan.specs.Characters.{is_delimiter}
use Rattle.ps_scan.proofs.characters.row_length.Given as goal

abbrev pub invariant-loop-i : goal.invariant-loop-i
invariant-loop-i l = l.i + position_or_len is_delimiter (drop l.i l.text) ≡ position_or_len is_delimiter l.text
