use Rattle.std.proofs.Common.{◌≡◌, ◌+◌, false, drop}
use Rattle.ps_scan.specs.Characters.{blanks}
use Rattle.ps_scan.proofs.characters.blank_length.Given as goal

abbrev pub invariant-loop-i : goal.invariant-loop-i
invariant-loop-i l = l.i + blanks l.in_comment (drop l.i l.text) ≡ blanks false l.text
