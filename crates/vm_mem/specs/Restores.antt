-- What a restore answers.
use Rattle.std.specs.Prelude.{◌≡◌, true, false, Result, Ok, Err, ⊤}
use Rattle.ps_objects.specs.declared.cell.SaveName.{SaveName}
use Rattle.ps_memory.specs.Memory.{restore}
use Rattle.ps_meaning.specs.Answer.{Log, acted_in, is_outer}
use Rattle.vm_mem.specs.declared.restore_refusal.RestoreRefusal.{RestoreRefusal}
use Rattle.vm_mem.specs.declared.restore_refusal.RestoreRefusal.TheVariants as refusal

-- A restore is done where the save isn't outer, and refused where it is. Want of memory may come in place of either.
abbrev pub Restores : Log → SaveName → Result (Unit {0}) RestoreRefusal → Log → Type 0
Restores old s (Ok _) new = (is_outer old s ≡ false) × (new ≡ acted_in old (restore s))
Restores old s (Err (refusal.Outer r)) new = (is_outer old s ≡ true) × (r ≡ s) × (new ≡ old)
Restores old s (Err refusal.NoMemory) new = ⊤
