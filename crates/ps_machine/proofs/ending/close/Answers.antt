-- The report is taken, and then the end is told.
use Rattle.ps_machine.proofs.Closings.{stop_closes}
use Rattle.ps_machine.proofs.ending.close.Goals as goal

pub returns-in_ok-text-in-Stop : goal.returns-in_ok-text-in-Stop
returns-in_ok-text-in-Stop g c =
    stop_closes c.args.state.now (g.M.Mem.log c.args.mem.now) c.args.outcome c.in_ok-told-in-Stop.told c.in_ok-text-in-Stop.text (g.M.Mem.log c.reports.new.mem)
    c.in-Stop.is c.in_ok-told-in-Stop.ensures.told c.in_ok-text-in-Stop.ensures
