-- Nothing was given out where the paper couldn't be lifted.
use Rattle.std.proofs.Common.{[]}
use Rattle.ps_machine.specs.Lines.{papers_of}
use Rattle.ps_machine.specs.Runs.{shown}
use Rattle.ps_machine.proofs.Advancing.{cut_at_once, refused}
use Rattle.ps_machine.proofs.Showing.{shows_kept, shows_wiped}
use Rattle.ps_machine.proofs.giving.show.Goals as goal

pub returns-in_err-paper-clause-cut : goal.returns-in_err-paper-clause-cut
returns-in_err-paper-clause-cut g c =
    let o = c.args.out.now in
    refused c.from_residual.result _ (cut_at_once g.O.Outlet.cut g.met.O.Outlet.longer o (papers_of (shown (g.M.Mem.log c.args.mem.now))) []
    (g.met.O.Outlet.whole o o [] [] (g.met.O.Outlet.nothing o)))

pub returns-in_ok-wipe-clause-shows : goal.returns-in_ok-wipe-clause-shows
returns-in_ok-wipe-clause-shows g c =
    shows_wiped c.args.wipe c.args.state.now (g.M.Mem.log c.args.mem.now) (g.M.Mem.log c.lift.new.self) (g.M.Mem.log c.lay.new.self) c.in_ok-paper.paper
    c.in_ok-paper.ensures.paper c.in_ok-paper.ensures.lifted c.lay.ensures (g.M.Mem.log c.wipe.new.self) c.pixels.result c.pixels-then-wipe.result
    c.if-wipe.true c.pixels.ensures.value c.pixels-then-wipe.ensures.value c.in_ok-wipe.ensures

pub returns-else-wipe-clause-shows : goal.returns-else-wipe-clause-shows
returns-else-wipe-clause-shows g c =
    shows_kept c.args.wipe c.args.state.now (g.M.Mem.log c.args.mem.now) (g.M.Mem.log c.lift.new.self) (g.M.Mem.log c.lay.new.self) c.in_ok-paper.paper
    c.in_ok-paper.ensures.paper c.in_ok-paper.ensures.lifted c.lay.ensures c.if-wipe.false
