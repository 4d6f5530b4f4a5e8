-- A source in memory.
use Rattle.std.specs.Prelude.{ℕ, List, length, min}
use Rattle.rip_ports.specs.Calls.{Calls}

-- the bytes not yet given, the most bytes that a call gives, and the calls
pub record SourceInMemory : Type 0 where
  pub rest : List ℕ
  pub step : ℕ
  pub calls : Calls

-- how many bytes a call gives where there is so much room for them
abbrev pub given_count : ℕ → SourceInMemory → ℕ
given_count room source = min room (min source.step (length source.rest))
