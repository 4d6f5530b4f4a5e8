-- Whether registers and a memory are as they were when a run began.
use Rattle.std.specs.Prelude.{◌≡◌, ◌≢◌, ℕ, ◌<◌, List, Option, Some, None, Result, Ok, Err, MatchOption, slice_get}
use Rattle.std.specs.List.{AllByRecursion}
use Rattle.ps_objects.specs.declared.place.Loc.{Loc}
use Rattle.ps_objects.specs.declared.place.Value.{Value}
use Rattle.ps_kinds.specs.declared.regs.Regs.{Regs}
use Rattle.ps_kinds.specs.Registers.{first_difference}
use Rattle.ps_memory.specs.Memory.{Memory, value_at}
use Rattle.access_log.specs.declared.log.Read.{Read}
use Rattle.access_log.specs.declared.differs.Differs.{Differs}
use Rattle.access_log.specs.declared.differs.Place.{Place}
use Rattle.access_log.specs.declared.differs.Place.TheVariants.{Register, Entry}

-- memory has the value that was noted
abbrev pub Agrees : Memory → Read → Type 0
Agrees M r = value_at M r.at ≡ r.value

-- the reads before the nth agree
abbrev pub AgreeBefore : Memory → List Read → ℕ → Type 0
AgreeBefore M rs n = (k : ℕ) → k < n → (r : Read) → slice_get rs k ≡ Some r → Agrees M r

-- the nth read is there and doesn't agree
abbrev pub Disagrees : Memory → Option Read → Type 0
Disagrees M None = ⊥
Disagrees M (Some r) = value_at M r.at ≢ r.value

-- the nth read is the first that doesn't agree
pub record IsFirst (M : Memory) (rs : List Read) (n : ℕ) : Type 0 where
  pub before : AgreeBefore M rs n
  pub here : Disagrees M (slice_get rs n)

-- all reads agree, or the first that doesn't is the nth
abbrev pub AgreeUntil : Memory → List Read → Option ℕ → Type 0
AgreeUntil M rs n = MatchOption n (AllByRecursion (Agrees M) rs) (IsFirst M rs)

-- the first register that differs, in the order of the fields; or, where none does, the first read that doesn't agree
abbrev pub DiffersAt : List Read → Regs → Regs → Memory → Place → Type 0
DiffersAt rs before now M (Register f) = first_difference before now ≡ Some f
DiffersAt rs before now M (Entry n) = (first_difference before now ≡ None) × IsFirst M rs n

-- What comes of the comparison: all registers and all reads agree, or the first that doesn't is named.
abbrev pub Compares : List Read → Regs → Regs → Memory → Result (Unit {0}) Differs → Type 0
Compares rs before now M (Ok _) = (first_difference before now ≡ None) × AllByRecursion (Agrees M) rs
Compares rs before now M (Err d) = DiffersAt rs before now M d.place

-- the value that was noted, and the one that memory has there
abbrev pub Shows : Memory → Option Read → Value × Value → Type 0
Shows M None p = ⊥
Shows M (Some r) p = (p.0 ≡ r.value) × (p.1 ≡ value_at M r.at)

-- the place of a read that is there
abbrev pub IsPlace : Option Read → Loc → Type 0
IsPlace None l = ⊥
IsPlace (Some r) l = l ≡ r.at
