use Rattle.std.proofs.Common.{◌≤◌}
use Rattle.ps_steps.specs.Next.{program}
use Rattle.ps_machine.specs.Loops.{Stands}
use Rattle.ps_machine.specs.Runs.{whole_of}
use Rattle.ps_machine.proofs.Loops.{weight_of}
use Rattle.ps_machine.proofs.running.run.Given as goal

-- what is left comes to what the whole comes to, after what was given out
abbrev pub invariant-loop-alloc : goal.invariant-loop-alloc
invariant-loop-alloc g l =
    record {
      counted : g.O.Outlet.faults l.fn.out ≤ g.O.Outlet.faults l.out;
      stands : Stands g.O.Outlet.since (program g.T.Operators.table l.fn.text) (whole_of g.T.Operators.table l.fn.text l.fn.state) (g.M.Mem.log l.fn.mem) l.fn.out l.next l.state (g.M.Mem.log l.mem) l.out l.last;
    }

abbrev pub decreases-loop-alloc : goal.decreases-loop-alloc
decreases-loop-alloc g l = weight_of l.next l.state
