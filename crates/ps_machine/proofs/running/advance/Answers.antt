-- Nothing was given out where a step finds no memory.
use Rattle.std.proofs.Common.{[]}
use Rattle.ps_machine.specs.Lines.{papers_of, messages_of}
use Rattle.ps_machine.specs.Runs.{given, stepped}
use Rattle.ps_machine.proofs.Advancing.{cut_at_once, refused}
use Rattle.ps_machine.proofs.running.advance.Goals as goal

pub returns-in_err-next-clause-cut : goal.returns-in_err-next-clause-cut
returns-in_err-next-clause-cut g c =
    let o = c.args.out.now in
    let out = given (stepped g.T.Operators.table c.args.text.now c.args.next c.args.state.now (g.M.Mem.log c.args.mem.now)) in
    refused c.from_residual.result _
    (cut_at_once g.O.Outlet.cut g.met.O.Outlet.longer o (papers_of out) (messages_of out) (g.met.O.Outlet.whole o o [] [] (g.met.O.Outlet.nothing o)))
