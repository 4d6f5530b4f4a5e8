-- Where a section may begin.
use Rattle.std.specs.Prelude.{ℕ, ◌≤◌, List}
use Rattle.ps_objects.specs.declared.section.SectionKind.{SectionKind}
use Rattle.ps_objects.specs.declared.settings.Settings.{Settings}
use Rattle.ps_kinds.specs.declared.regs.Regs.{Regs}
use Rattle.ps_memory.specs.Memory.{Memory}
use Rattle.ps_meaning.specs.Kin.{HasNoneFrom}
use Rattle.ps_meaning.specs.Registers.{SoundState, world_of}
use Rattle.ps_execution.specs.Lawful.{SoundAt}
use Rattle.ps_execution.specs.Machine.{goes}
use Rattle.ps_execution.specs.Section.{fresh_state}

-- Section n may run on these registers and this memory: they are a sound state, which has no cell and no save of this number or a greater one.
pub record MayRun (n : ℕ) (R : Regs) (M : Memory) : Type 0 where
  pub sound : SoundState R M
  pub unnamed : HasNoneFrom n (world_of n M)

-- there, a section's fresh state is one from which the machine may run
abbrev pub BeginsLaw : Type 0
BeginsLaw = (text : List ℕ) (settings : Settings) (moment n : ℕ) (kind : SectionKind) (R : Regs) (M : Memory) →
    1 ≤ n → MayRun n R M → SoundAt text (goes (fresh_state settings moment n kind R)) M
