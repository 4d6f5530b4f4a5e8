-- Why a run is refused.
use Rattle.std.specs.Prelude.{◌≡◌, Result, Ok, Err}
use Rattle.out_writers.specs.declared.outlet.OutRefusal.{OutRefusal}
use Rattle.out_writers.specs.declared.outlet.OutRefusal.TheVariants as outlet
use Rattle.ps_machine.specs.declared.refusal.RunRefusal.{RunRefusal}
use Rattle.ps_machine.specs.declared.refusal.RunRefusal.TheVariants as refusal

-- as the outlet's refusal
abbrev pub refused : OutRefusal → RunRefusal
refused outlet.Failed = refusal.OutFault
refused outlet.NoMemory = refusal.NoMemory

-- a refusal by a fault of the outlet, and not for want of memory
abbrev pub IsFault : {A : Type 0} → Result A RunRefusal → Type 0
IsFault (Ok x) = ⊥
IsFault (Err e) = e ≡ refusal.OutFault
