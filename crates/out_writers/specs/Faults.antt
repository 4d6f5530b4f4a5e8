-- The count of faults of what takes pages and messages.
use Rattle.std.specs.Prelude.{◌≡◌, ◌⊎◌, ℕ, ◌+◌, ◌-◌, ◌^◌, ◌≤◌, ◌||◌, min, nat_le, if◌then◌else◌, Result, Ok, Err}
use Rattle.rip_ports.specs.Ports as port
use Rattle.out_writers.specs.declared.outlet.OutRefusal.{OutRefusal}
use Rattle.out_writers.specs.declared.outlet.OutRefusal.TheVariants as refusal

-- the last value of such a count, above all sums of two counts of ports that stand before theirs
abbrev pub last_count : ℕ
last_count = 2 ^ 65

-- a count that rose; one at its last value counts as risen
abbrev pub HasRisen : ℕ → ℕ → Type 0
HasRisen before after = min (before + 1) last_count ≤ after

-- the last value of a port's count
abbrev pub last_of_port : ℕ
last_of_port = 2 ^ 64 - 1

-- the sum of two ports' counts; where one of them stands at its last value, the last value of all
abbrev pub sum_of_faults : ℕ → ℕ → ℕ
sum_of_faults p b = if nat_le last_of_port p || nat_le last_of_port b then last_count else p + b

-- a refusal by a fault, and not for want of memory
abbrev pub IsFailed : {A : Type 0} → Result A OutRefusal → Type 0
IsFailed (Ok x) = ⊥
IsFailed (Err e) = e ≡ refusal.Failed

-- where the count over two ports has risen, that of one of them has
abbrev pub FaultsLaw : Type 0
FaultsLaw = (p b q c : ℕ) → HasRisen (sum_of_faults p b) (sum_of_faults q c) → port.HasRisen p q ⊎ port.HasRisen b c
