-- A sink in memory.
use Rattle.std.specs.Prelude.{ℕ, ◌+◌, ◌-◌, ◌/◌, ◌<◌, List, length, min, take}
use Rattle.rip_ports.specs.Calls.{Calls}

-- the bytes so far, how many there is room for in all, and the calls
pub record SinkInMemory : Type 0 where
  pub bytes : List ℕ
  pub room : ℕ
  pub calls : Calls

-- the piece doesn't fit into the room that is left
abbrev pub IsTooLong : List ℕ → SinkInMemory → Type 0
IsTooLong piece sink = sink.room < length sink.bytes + length piece

-- what a call that is to fail keeps of its piece: the first half, and no more than fits
abbrev pub half_kept : List ℕ → SinkInMemory → List ℕ
half_kept piece sink = take (min (length piece / 2) (sink.room - length sink.bytes)) piece
