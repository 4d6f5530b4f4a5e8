use Rattle.ps_scan.proofs.PrintedLemmas.{printed_scans}
use Rattle.ps_scan.proofs.tokens.printed_integers_scan.Goals as goal

pub returns : goal.returns
returns c = printed_scans
