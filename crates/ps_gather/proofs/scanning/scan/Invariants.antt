use Rattle.std.proofs.Common.{◌≡◌, ◌≤◌, length}
use Rattle.ps_execution.specs.Gather.{gather}
use Rattle.ps_gather.specs.Ended.{Leads}
use Rattle.ps_gather.specs.Gathered.{IsGathered}
use Rattle.ps_gather.proofs.Steps.{left}
use Rattle.ps_gather.proofs.scanning.scan.Given as goal

-- what is left reads what the whole reads
abbrev pub invariant-loop-token : goal.invariant-loop-token
invariant-loop-token g l =
    let log = g.M.Mem.log in
    record {
      leads : Leads (gather l.bytes l.place l.state) (log l.fn.mem) (left l.bytes l.state l._token l.at l.gathering) (log l.mem);
      gathered : IsGathered l.state.kind 0 l.gathering;
      within : l.at ≤ length l.bytes;
      view : (log l.mem).view ≡ (log l.fn.mem).view;
    }
