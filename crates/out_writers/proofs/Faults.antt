-- A sum of two counts rose only where one of them did.
use Rattle.std.proofs.Common.{◌≡◌, ◌⊎◌, ℕ, ◌+◌, ◌≤◌, ◌<◌, Bool, true, false, arith, inl, inr, refl}
use Rattle.std.proofs.lemmas.Bool.{leb-true, leb-false}
use Rattle.std.specs.Prelude.{nat_le, ◌||◌, if◌then◌else◌, min}
use Rattle.out_writers.specs.Faults.{FaultsLaw, HasRisen, last_count, last_of_port}
use Rattle.rip_ports.specs.Ports as port

-- one of two counts rose where their sum did, below its last value
one_of : (p b q c : ℕ) (d : Bool) → nat_le (p + 1) q ≡ d → q < last_of_port → c < last_of_port → min (p + b + 1) last_count ≤ q + c →
    port.HasRisen p q ⊎ port.HasRisen b c
one_of p b q c true e i j h = let t = leb-true (p + 1) q e in inl (omega arith)
one_of p b q c false e i j h =
    let t = leb-false (p + 1) q e in
    let more : b < c = omega arith in
    inr (omega arith)

too_small : (q c : ℕ) → q < last_of_port → c < last_of_port → last_count ≤ q + c → ⊥
too_small q c i j h = omega arith

by_tests : (p b q c : ℕ) (i j k l : Bool) → nat_le last_of_port p ≡ i → nat_le last_of_port b ≡ j → nat_le last_of_port q ≡ k → nat_le last_of_port c ≡ l →
    HasRisen (if i || j then last_count else p + b) (if k || l then last_count else q + c) → port.HasRisen p q ⊎ port.HasRisen b c
by_tests p b q c i j true l u v w x h = let t = leb-true last_of_port q w in inl (omega arith)
by_tests p b q c i j false true u v w x h = let t = leb-true last_of_port c x in inr (omega arith)
by_tests p b q c true j false false u v w x h = absurd (too_small q c (leb-false last_of_port q w) (leb-false last_of_port c x) h)
by_tests p b q c false true false false u v w x h = absurd (too_small q c (leb-false last_of_port q w) (leb-false last_of_port c x) h)
by_tests p b q c false false false false u v w x h = one_of p b q c (nat_le (p + 1) q) refl (leb-false last_of_port q w) (leb-false last_of_port c x) h

pub one_rose : FaultsLaw
one_rose p b q c h = by_tests p b q c (nat_le last_of_port p) (nat_le last_of_port b) (nat_le last_of_port q) (nat_le last_of_port c) refl refl refl refl h
