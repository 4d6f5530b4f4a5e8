use Rattle.std.proofs.Common.{◌≡◌, ◌-◌, ◌^◌, min, true, take}
use Rattle.std.specs.List.{list_all}
use Rattle.std.specs.Char.{is_ascii_digit}
use Rattle.dsc_split.specs.Comments.{decimal_value}
use Rattle.dsc_split.proofs.words.number_of.Given as goal

abbrev pub invariant-loop-byte : goal.invariant-loop-byte
invariant-loop-byte l =
    (l.value ≡ min (decimal_value (take l.byte-index l.word)) (2 ^ 64 - 1)) × (list_all is_ascii_digit (take l.byte-index l.word) ≡ true)
