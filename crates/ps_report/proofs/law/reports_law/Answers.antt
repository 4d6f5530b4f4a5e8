use Rattle.ps_report.proofs.Taking as taking
use Rattle.ps_report.proofs.law.reports_law.Goals as goal

pub returns : goal.returns
returns c = taking.reports_law
