use Rattle.std.proofs.Common.{◌≡◌, ◌+◌, drop}
use Rattle.std.specs.List.{prefix_len}
use Rattle.ps_scan.specs.Strings.{is_hex}
use Rattle.ps_scan.proofs.strings.hex_length.Given as goal

abbrev pub invariant-loop-i : goal.invariant-loop-i
invariant-loop-i l = l.i + prefix_len is_hex (drop l.i l.text) ≡ prefix_len is_hex l.text
