-- The numbered calls of a source or a sink in memory.
use Rattle.std.specs.Prelude.{ℕ, List, Contains}
use Rattle.rip_ports.specs.Ports.{raised}

-- the calls made so far, of which the first has the number 1; the numbers of the calls that fail; how many calls failed
pub record Calls : Type 0 where
  pub made : ℕ
  pub failing : List ℕ
  pub faults : ℕ

-- the number of the next call is listed
abbrev pub IsNextListed : Calls → Type 0
IsNextListed calls = Contains calls.failing (raised calls.made)

-- after one more call, which succeeded
abbrev pub after_success : Calls → Calls
after_success calls = record calls { made = raised calls.made }

-- after one more call, which failed
abbrev pub after_fault : Calls → Calls
after_fault calls = record calls { made = raised calls.made; faults = raised calls.faults }
