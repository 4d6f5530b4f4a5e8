-- Counts of faults over both sinks.
use Rattle.std.proofs.Common.{◌≡◌, ◌⊎◌, ℕ, ◌+◌, ◌≤◌, Bool, true, false, refl, arith}
use Rattle.std.proofs.lemmas.Bool.{leb-true, leb-false}
use Rattle.std.specs.Prelude.{nat_le, ◌||◌, if◌then◌else◌, min}
use Rattle.rip_ports.specs.Ports as port
use Rattle.out_writers.specs.Faults.{HasRisen, last_count, last_of_port, sum_of_faults}
use Rattle.out_writers.proofs.Faults.{one_rose}
use Rattle.ps_machine.proofs.Faults.{rose_later}

by_tests : (q c d : ℕ) (i j k : Bool) → nat_le last_of_port q ≡ i → nat_le last_of_port c ≡ j → nat_le last_of_port d ≡ k → port.HasRisen c d →
    HasRisen (if i || j then last_count else q + c) (if i || k then last_count else q + d)
by_tests q c d true j k u v w h = omega arith
by_tests q c d false true true u v w h = omega arith
by_tests q c d false true false u v w h = let t = leb-true last_of_port c v in let f = leb-false last_of_port d w in absurd (omega (arith, h))
by_tests q c d false false true u v w h = omega arith
by_tests q c d false false false u v w h = let f = leb-false last_of_port c v in omega (arith, h)

-- where the count of one sink rises, that over both does
sum_rises : (q c d : ℕ) → port.HasRisen c d → HasRisen (sum_of_faults q c) (sum_of_faults q d)
sum_rises q c d h = by_tests q c d (nat_le last_of_port q) (nat_le last_of_port c) (nat_le last_of_port d) refl refl refl h

-- after a run, a fault of the back channel is one that rose since before the run, if not on it then on the pages
pub rose_after : (p b q c d : ℕ) → sum_of_faults p b ≤ sum_of_faults q c → port.HasRisen c d → port.HasRisen p q ⊎ port.HasRisen b d
rose_after p b q c d l h = one_rose p b q d (rose_later (sum_of_faults p b) (sum_of_faults q c) (sum_of_faults q d) l (sum_rises q c d h))
