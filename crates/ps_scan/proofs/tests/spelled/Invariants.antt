use Rattle.std.proofs.Common.{◌≤◌, length}
use Rattle.ps_scan.proofs.tests.spelled.Given as goal

abbrev pub invariant-tokens : goal.invariant-tokens
invariant-tokens l = l.pos ≤ length l.text
