use Rattle.std.proofs.Common.{◌≡◌, [], true, length}
use Rattle.ps_execution.specs.Machine.{unwound}
use Rattle.ps_execution.specs.Reached.{reached}
use Rattle.vm_mem.specs.Conditions.{page_is_here}
use Rattle.ps_steps.specs.Next.{program, outcome_at}
use Rattle.ps_steps.proofs.leaving.throw.Given as goal

-- what is left to be thrown comes to what the whole comes to
abbrev pub invariant-loop-frame : goal.invariant-loop-frame
invariant-loop-frame g l =
    record {
      here : page_is_here (g.M.Mem.log l.mem).view ≡ true;
      rest : reached (unwound (program g.T.Operators.table l.text) l.state.frames (outcome_at l.stop) l.state) (g.M.Mem.log l.mem) []
          ≡ reached (unwound (program g.T.Operators.table l.fn.text) l.fn.state.frames (outcome_at l.fn.stop) l.fn.state) (g.M.Mem.log l.fn.mem) [];
    }

abbrev pub decreases-loop-frame : goal.decreases-loop-frame
decreases-loop-frame g l = length l.state.frames
