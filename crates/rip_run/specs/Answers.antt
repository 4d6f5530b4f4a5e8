-- What a call answers, and has written.
use Rattle.std.specs.Prelude.{◌≡◌, ◌≢◌, ◌⊎◌, ℕ, List, Option}
use Rattle.rip_ports.specs.Ports.{HasRisen}
use Rattle.rip_run.specs.Job.{JobResult}
use Rattle.rip_run.specs.Status.{IsDefined, Writes}
use Rattle.rip_run.specs.declared.status.Status.{Status}

-- a call answers as the result says, and both sinks have got its bytes, but for faults and want of memory
pub record Answers (r : JobResult) (answer : Status) (pages_before pages_after back_before back_after : Option (List ℕ)) : Type 0 where
  pub status : IsDefined answer → answer ≡ r.status
  pub pages : Writes answer r.pages pages_before pages_after
  pub back : Writes answer r.back back_before back_after
