-- The reading of a job.
use Rattle.std.specs.Prelude.{◌≡◌, ◌+◌, ◌<◌, ℕ, List, [], length, drop, Option, Some, IfSome}
use Rattle.rip_ports.specs.Ports.{HasRisen}
use Rattle.rip_run.specs.declared.reading.Unread.{Unread}
use Rattle.rip_run.specs.declared.reading.Unread.TheVariants.{TooLong, Fault, NoMemory}

-- a source that tells its bytes has none left
abbrev pub IsAtEnd : Option (List ℕ) → Type 0
IsAtEnd left = IfSome left (λ bytes. bytes ≡ [])

-- the answer is that the source had more bytes than these only where it had, and one more of them was taken
abbrev pub WasTooLong : ℕ → Option (List ℕ) → Option (List ℕ) → Unread → Type 0
WasTooLong most before after TooLong = IfSome before (λ bytes. (most < length bytes) × (after ≡ Some (drop (most + 1) bytes)))
WasTooLong most before after _ = Unit {0}

-- the answer is that the source failed only where its count of faults rose
abbrev pub HasFailed : ℕ → ℕ → Unread → Type 0
HasFailed before after Fault = HasRisen before after
HasFailed before after _ = Unit {0}

-- the answer of one take: want of memory, or a failure whose count rose
abbrev pub IsFailure : ℕ → ℕ → Unread → Type 0
IsFailure before after Fault = HasRisen before after
IsFailure before after NoMemory = Unit {0}
IsFailure before after TooLong = ⊥
