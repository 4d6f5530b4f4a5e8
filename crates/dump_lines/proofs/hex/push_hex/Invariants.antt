use Rattle.std.proofs.Common.{◌≡◌, ◌++◌, take}
use Rattle.std.specs.Prelude.{flat_map}
use Rattle.dump_lines.specs.Hex.{hex_byte}
use Rattle.dump_lines.proofs.hex.push_hex.Given as goal

abbrev pub invariant-loop-byte : goal.invariant-loop-byte
invariant-loop-byte l = l.text ≡ l.fn.text ++ flat_map hex_byte (take l.byte-index l.bytes)
