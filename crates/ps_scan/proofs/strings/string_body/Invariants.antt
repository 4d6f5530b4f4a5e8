use Rattle.std.proofs.Common.{◌+◌, ◌≤◌, length}
use Rattle.ps_scan.proofs.StringLemmas.{Read}
use Rattle.ps_scan.proofs.strings.string_body.Given as goal

abbrev pub invariant-pieces : goal.invariant-pieces
invariant-pieces l =
    record {
      within : length l.rest ≤ length l.text;
      deep : l.depth + length l.rest ≤ length l.text;
      long : l.limited.length + length l.rest ≤ length l.text;
      read : Read l.limited l.text l.rest l.depth;
    }

abbrev pub decreases-pieces : goal.decreases-pieces
decreases-pieces l = length l.rest
